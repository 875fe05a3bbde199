-- An object that the code has seen, as the definitions have it. This project's own.
use Rattle.osc_word.specs.declared.calls.Answer.{Answer}
use Rattle.osc_word.specs.declared.calls.Answer.TheVariants.{HeaderDamaged}
use Rattle.osc_space.specs.declared.HeaderLook.{HeaderLook}
use Rattle.osc_space.specs.declared.HeaderLook.TheVariants.{Words, Zero, DoubleFree, NotAnObject}
use Rattle.osc_space.specs.Objects.{Seen}
use Rattle.osc_shadow.specs.declared.header.SeenObject.{SeenObject}
use Rattle.osc_shadow.specs.declared.header.Damage.{Damage}

abbrev pub seen_of : SeenObject → Seen
seen_of o = record { number = o.number; fact = o.fact }

abbrev pub damage_answer : Damage → Answer
damage_answer d = HeaderDamaged d.kept d.found

-- there is a live object
abbrev pub GivesWords : HeaderLook → Type 0
GivesWords (Words first second) = Unit {0}
GivesWords Zero = ⊥
GivesWords (DoubleFree object call) = ⊥
GivesWords NotAnObject = ⊥

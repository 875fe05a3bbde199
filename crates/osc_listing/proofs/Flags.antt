-- Whether a page's flags have the one of code.
use Rattle.std.proofs.Common.{◌≡◌, ℕ, Bool, true, false, ◌==◌, Some, None, refl, sym, ap, ◌∙◌}
use Rattle.std.specs.declared.option.Option.{Option}
use Rattle.std.specs.Int.RustNames.{bit_and}
use Rattle.osc_sv39.specs.declared.flags.PteBits.{PteBits}
use Rattle.osc_sv39.specs.declared.entries.Access.TheVariants.{Fetch, Load, Store}
use Rattle.osc_image.specs.Image.{Image, bits_at, bits_of, page_permits}
use Rattle.osc_listing.specs.Listing.{is_code}

has_code : Option PteBits → Bool
has_code None = false
has_code (Some bits) = bit_and bits.0 8 == 8

has_code-of : (read write execute : Bool) → has_code (bits_of read write execute) ≡ execute
unfolding has_code
has_code-of false false false = refl
has_code-of false false true = refl
has_code-of false true false = refl
has_code-of false true true = refl
has_code-of true false false = refl
has_code-of true false true = refl
has_code-of true true false = refl
has_code-of true true true = refl

at : (image : Image) (page : ℕ) → has_code (bits_at image page) ≡ is_code image page
at image page =
    has_code-of (page_permits image.segments Load page) (page_permits image.segments Store page)
    (page_permits image.segments Fetch page)

pub code_flag : (image : Image) (page : ℕ) (bits : PteBits) → bits_at image page ≡ Some bits
    → (bit_and bits.0 8 == 8) ≡ is_code image page
unfolding has_code
code_flag image page bits mapped = sym (ap has_code mapped) ∙ at image page

pub no_flags : (image : Image) (page : ℕ) → bits_at image page ≡ None → false ≡ is_code image page
unfolding has_code
no_flags image page none = sym (ap has_code none) ∙ at image page

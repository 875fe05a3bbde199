-- What stands at the page's place decides.
use Rattle.std.proofs.Common.{◌≡◌, ◌≢◌, ◌<◌, length, slice_index_or, arith, sym}
use Rattle.osc_heap.proofs.Places.{place, found_place, missing_place}
use Rattle.osc_heap.proofs.rest.frame_of.Goals as goal

pub returns-then-found-page : goal.returns-then-found-page
returns-then-found-page c =
    let within : place c.args.page c.args.pages.now < length c.args.pages.now = rw c.place_of-at.ensures at c.if-at-pages.true in
    let same : (slice_index_or c.args.pages.now (place c.args.page c.args.pages.now) (record { page = 0; frame = 0 })).page ≡ c.args.page = rw c.place_of-at.ensures at c.if-found-page.true in
    rw c.place_of-at.ensures (sym (found_place c.args.page (record { page = 0; frame = 0 }) c.args.pages.now c.requires within same))

pub returns-else-found-page : goal.returns-else-found-page
returns-else-found-page c =
    let other : (slice_index_or c.args.pages.now (place c.args.page c.args.pages.now) (record { page = 0; frame = 0 })).page ≢ c.args.page = rw c.place_of-at.ensures at c.if-found-page.false in
    sym (missing_place c.args.page (record { page = 0; frame = 0 }) c.args.pages.now c.requires (λ l. other))

pub returns-else-at-pages : goal.returns-else-at-pages
returns-else-at-pages c =
    let past = rw c.place_of-at.ensures at c.if-at-pages.false in
    sym (missing_place c.args.page (record { page = 0; frame = 0 }) c.args.pages.now c.requires (λ l. absurd (omega arith)))

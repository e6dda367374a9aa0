use Rattle.std.proofs.Common.{◌<◌, ◌+◌, ◌*◌, ◌/◌, ◌^◌, length, refl, sym, ap, subst, ◌∙◌, arith}
use Rattle.std.proofs.lemmas.Option.{slice_get_read}
use Rattle.dsec_keys.specs.Indexes.{IsIndexOf, entry_of}
use Rattle.dsec_keys.proofs.Searches.{none_left, is_next, no_next, split_at}
use Rattle.dsec_keys.proofs.index.KeyIndex.next.Goals as goal

pub returns-then-at-len : goal.returns-then-at-len
returns-then-at-len c codes held =
    let entries = c.self.inside.entries.items in
    let index = subst (IsIndexOf codes) (sym c.self.view_is) held in
    let code = c.args.algorithm * 2 ^ 16 + c.args.tag in
    let parted = split_at codes entries c.deref.result.now index c.deref.ensures.value c.entry-least.result (entry_of code c.args.from) c.first_from-at.result c.entry-least.ensures.value c.first_from-at.ensures.split in
    none_left codes entries index code c.args.from c.first_from-at.result parted.0 parted.1 (omega (arith, c.if-at-len.true, c.len.ensures))

pub returns-then-found-least : goal.returns-then-found-least
returns-then-found-least c codes held =
    let entries = c.self.inside.entries.items in
    let index = subst (IsIndexOf codes) (sym c.self.view_is) held in
    let code = c.args.algorithm * 2 ^ 16 + c.args.tag in
    let at = c.first_from-at.result in
    let e = c.index-found.result.now in
    let parted = split_at codes entries c.deref.result.now index c.deref.ensures.value c.entry-least.result (entry_of code c.args.from) at c.entry-least.ensures.value c.first_from-at.ensures.split in
    let below : at < length entries = omega (arith, c.if-at-len.false, c.len.ensures, c.deref.ensures.len, c.first_from-at.ensures.within) in
    is_next codes entries index code c.args.from at parted.0 parted.1 e (slice_get_read entries (length entries) at e refl below c.index-found.ensures) c.ranges.from.fits (c.if-found-least.true ∙ ap (λ n. n / 2 ^ 64) c.entry-least.ensures.value)

pub returns-else-found-least : goal.returns-else-found-least
returns-else-found-least c codes held =
    let entries = c.self.inside.entries.items in
    let index = subst (IsIndexOf codes) (sym c.self.view_is) held in
    let code = c.args.algorithm * 2 ^ 16 + c.args.tag in
    let at = c.first_from-at.result in
    let e = c.index-found.result.now in
    let parted = split_at codes entries c.deref.result.now index c.deref.ensures.value c.entry-least.result (entry_of code c.args.from) at c.entry-least.ensures.value c.first_from-at.ensures.split in
    let below : at < length entries = omega (arith, c.if-at-len.false, c.len.ensures, c.deref.ensures.len, c.first_from-at.ensures.within) in
    no_next codes entries index code c.args.from at parted.0 parted.1 e (slice_get_read entries (length entries) at e refl below c.index-found.ensures) c.ranges.from.fits
    (λ same. c.if-found-least.false (same ∙ ap (λ n. n / 2 ^ 64) (sym c.entry-least.ensures.value)))

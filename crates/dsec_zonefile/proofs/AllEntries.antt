-- The entries of a text are one list, and it ends in one way.
use Rattle.std.proofs.Common.{◌≡◌, ℕ, List, ◌∷◌, Option, Some, refl, sym, ap, subst}
use Rattle.dsec_zonefile.specs.Entries.{HasEntries, Next, Reader, ended, found, goes_on, no_more, refused, stops}
use Rattle.dsec_zonefile.specs.declared.entry.Entry.{Entry}
use Rattle.dsec_zonefile.proofs.NextEntry.{one_next}

not_found_and_ended : (it : Entry) (next last : Reader) → found it next ≡ ended last → ⊥
not_found_and_ended it next last e = absurd cc

not_found_and_refused : (it : Entry) (next : Reader) (line : ℕ) → found it next ≡ refused line → ⊥
not_found_and_refused it next line e = absurd cc

not_ended_and_refused : (last : Reader) (line : ℕ) → ended last ≡ refused line → ⊥
not_ended_and_refused last line e = absurd cc

abbrev entry_in : Entry → Next → Entry
entry_in other (found it next) = it
entry_in other (ended last) = other
entry_in other (refused line) = other

abbrev reader_in : Reader → Next → Reader
reader_in other (found it next) = next
reader_in other (ended last) = other
reader_in other (refused line) = other

abbrev line_in : ℕ → Next → ℕ
line_in other (found it next) = other
line_in other (ended last) = other
line_in other (refused line) = line

-- of a reader only one list of entries comes, and one end
pub one_reading : (reader : Reader) (xs ys : List Entry) (a b : Option ℕ) → HasEntries reader xs a → HasEntries reader ys b → (xs ≡ ys) × (a ≡ b)
one_reading reader _ _ _ _ (no_more _ last h) (no_more _ other g) = (refl, refl)
one_reading reader _ _ _ _ (no_more _ last h) (stops _ line g) = absurd (not_ended_and_refused last line (one_next reader (ended last) (refused line) h g))
one_reading reader _ _ _ _ (no_more _ last h) (goes_on _ next it ys b g rest) = absurd (not_found_and_ended it next last (one_next reader (found it next) (ended last) g h))
one_reading reader _ _ _ _ (stops _ line h) (no_more _ last g) = absurd (not_ended_and_refused last line (one_next reader (ended last) (refused line) g h))
one_reading reader _ _ _ _ (stops _ line h) (stops _ other g) = (refl, ap (λ (next : Next). Some (line_in 0 next)) (one_next reader (refused line) (refused other) h g))
one_reading reader _ _ _ _ (stops _ line h) (goes_on _ next it ys b g rest) = absurd (not_found_and_refused it next line (one_next reader (found it next) (refused line) g h))
one_reading reader _ _ _ _ (goes_on _ next it xs a h rest) (no_more _ last g) = absurd (not_found_and_ended it next last (one_next reader (found it next) (ended last) h g))
one_reading reader _ _ _ _ (goes_on _ next it xs a h rest) (stops _ line g) = absurd (not_found_and_refused it next line (one_next reader (found it next) (refused line) h g))
one_reading reader _ _ _ _ (goes_on _ next it xs a h rest) (goes_on _ other that ys b g more) =
    let e : found it next ≡ found that other = one_next reader (found it next) (found that other) h g in
    let same : next ≡ other = ap (reader_in next) e in
    let tail = one_reading next xs ys a b rest (subst (λ (r : Reader). HasEntries r ys b) (sym same) more) in
    (λ i. entry_in it (e i) ∷ tail.0 i, tail.1)

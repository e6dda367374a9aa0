-- Data that a record may have.
use Rattle.std.proofs.Common.{◌≡◌, ℕ, List, ◌≤◌, ◌&&◌, length, Option, Some, None, Bool, true, false, refl, sym, ap, ◌∙◌, true≢false, cond, subst}
use Rattle.std.specs.Prelude.{nat_le, IsTrue, ◌↔◌}
use Rattle.std.specs.Option.{is_some}
use Rattle.std.specs.Cmp.{first_so, second_so}
use Rattle.std.proofs.lemmas.Bool.{le-leb, leb-true}
use Rattle.dsec_spec.specs.Reading.{◌>>=◌}
use Rattle.dsec_spec.specs.RecordData.{IsReadable, Part, parts_of}
use Rattle.dsec_spec.proofs.RecordDataLemmas.{from_parts_of, parts_of-readable}
use Rattle.dsec_zonefile.specs.Data.{is_readable, readable}

-- readable data pass the test
pub test_of_readable : (rtype : ℕ) (rdata : List ℕ) → IsReadable rtype rdata → is_readable rtype rdata ≡ true
test_of_readable rtype rdata h =
    λ i. le-leb (length rdata) 65535 h.at_most i && is_some (parts_of-readable rtype rdata h i)

from_some : (rtype : ℕ) (rdata : List ℕ) (parts : Option (List Part)) → parts_of rtype rdata ≡ parts → is_some parts ≡ true → length rdata ≤ 65535 → IsReadable rtype rdata
from_some rtype rdata None e h l = absurd (true≢false (sym h))
from_some rtype rdata (Some parts) e h l = record { parts = parts; are = from_parts_of rtype parts rdata e; at_most = l }

-- data that pass the test are readable
pub readable_from_test : (rtype : ℕ) (rdata : List ℕ) → is_readable rtype rdata ≡ true → IsReadable rtype rdata
readable_from_test rtype rdata h =
    from_some rtype rdata (parts_of rtype rdata) refl (second_so (nat_le (length rdata) 65535) _ h) (leb-true (length rdata) 65535 (first_so _ (is_some (parts_of rtype rdata)) h))

-- data that are not readable don't pass it
pub test_of_unreadable : (rtype : ℕ) (rdata : List ℕ) (t : Bool) → is_readable rtype rdata ≡ t → (IsReadable rtype rdata → ⊥) → is_readable rtype rdata ≡ false
test_of_unreadable rtype rdata true e unread = absurd (unread (readable_from_test rtype rdata e))
test_of_unreadable rtype rdata false e unread = e

-- what was written and may be the data
pub taken : (rtype : ℕ) (written : Option (List ℕ)) (octets slice : List ℕ) (t : Bool) → written ≡ Some octets → slice ≡ octets → (IsTrue t ↔ IsReadable rtype slice) → t ≡ true
    → (written >>= readable rtype) ≡ Some octets
taken rtype written octets slice t e s says is =
    ap (λ (o : Option (List ℕ)). o >>= readable rtype) e
    ∙ ap (λ (b : Bool). cond b (Some octets) None) (test_of_readable rtype octets (subst (IsReadable rtype) s (says.0 is)))

-- what was written and may not
pub not_taken : (rtype : ℕ) (written : Option (List ℕ)) (octets slice : List ℕ) (t : Bool) → written ≡ Some octets → slice ≡ octets → (IsTrue t ↔ IsReadable rtype slice) → t ≡ false
    → (written >>= readable rtype) ≡ None
not_taken rtype written octets slice t e s says is =
    ap (λ (o : Option (List ℕ)). o >>= readable rtype) e
    ∙ ap (λ (b : Bool). cond b (Some octets) None)
    (test_of_unreadable rtype octets (is_readable rtype octets) refl (λ h. true≢false (sym (says.1 (subst (IsReadable rtype) (sym s) h)) ∙ is)))

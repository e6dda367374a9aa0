-- A group's records are of one type, and its signatures are signatures.
use Rattle.std.proofs.Common.{◌≡◌, Bool, true, false, cond, List, [], ◌∷◌, ◌++◌, length, refl, sym, ap, subst, ◌∙◌, arith}
use Rattle.std.proofs.lemmas.Bool.{eqb-true}
use Rattle.std.proofs.lemmas.List.Elements.{All-nil, All-head, All-push}
use Rattle.dsec_spec.specs.Numbers.{RRSIG}
use Rattle.dsec_spec.specs.Records.{Record}
use Rattle.dsec_spec.specs.Groups.{is_signature}
use Rattle.dsec_group.specs.Adding.{canonical_of, has_data, led, with_record, AreAlike, AreGrouped, AreSignatures}
use Rattle.dsec_group.proofs.PlacedLemmas.{stays_led, stays_signed}
use Rattle.dsec_group.proofs.MemberLaws.{group_itself, grouped_plain, one_group}
use Rattle.dsec_group.proofs.TogetherLaws.{plain_alone, signed_alone, together_plain, together_signed}

-- one more signature
pub signed_more : (r : Record) (ss : List Record) → is_signature r ≡ true → AreSignatures ss → AreSignatures (with_record r ss)
signed_more r ss e h = go (has_data (canonical_of r) ss) where
  go : (d : Bool) → AreSignatures (cond d ss (ss ++ r ∷ []))
  go true = h
  go false = All-push (λ x. x.rtype ≡ RRSIG) ss r h (eqb-true r.rtype RRSIG e)

-- one more record of the group
pub alike_more : (r : Record) (ps ss : List Record) → is_signature r ≡ false → led r ps ss ≡ true → AreAlike ps → AreAlike (with_record r ps)
alike_more r [] ss e belongs h = All-push (λ x. (x.rtype ≡ r.rtype) × (is_signature x ≡ false)) [] r (All-nil (λ x. (x.rtype ≡ r.rtype) × (is_signature x ≡ false))) (refl, e)
alike_more r (p ∷ ps) ss e belongs h = go (has_data (canonical_of r) (p ∷ ps)) where
  first : (p.rtype ≡ p.rtype) × (is_signature p ≡ false)
  first = All-head (λ x. (x.rtype ≡ p.rtype) × (is_signature x ≡ false)) p ps h

  go : (d : Bool) → AreAlike (cond d (p ∷ ps) (p ∷ (ps ++ r ∷ [])))
  go true = h
  go false =
      All-push (λ x. (x.rtype ≡ p.rtype) × (is_signature x ≡ false)) (p ∷ ps) r h
      (sym (grouped_plain r e) ∙ sym (one_group p r belongs).grouped ∙ grouped_plain p first.1, e)

-- one record that is none, and one that is a signature
pub alike_one : (r : Record) → is_signature r ≡ false → AreAlike (r ∷ [])
alike_one r e = alike_more r [] (r ∷ []) e (group_itself r) (All-nil (λ x. (x.rtype ≡ RRSIG) × (is_signature x ≡ false)))

pub signed_one : (r : Record) → is_signature r ≡ true → AreSignatures (r ∷ [])
signed_one r e = signed_more r [] e (All-nil (λ x. x.rtype ≡ RRSIG))

-- a group that took a signature, or a record that is none
pub put_signed : (r : Record) (ps ss more : List Record) → is_signature r ≡ true → led r ps ss ≡ true → more ≡ with_record r ss → AreGrouped ps ss → AreGrouped ps more
put_signed r ps ss more e belongs is h = subst (AreGrouped ps) (sym is) (stays_signed (length ps) r ss h.0, together_signed r ps ss belongs h.1, h.2, signed_more r ss e h.3)

pub put_plain : (r : Record) (ps ss more : List Record) → is_signature r ≡ false → led r ps ss ≡ true → more ≡ with_record r ps → AreGrouped ps ss → AreGrouped more ss
put_plain r ps ss more e belongs is h =
    subst (λ xs. AreGrouped xs ss) (sym is) (stays_led (length ss) r ps h.0, together_plain r ps ss belongs h.1, alike_more r ps ss e belongs h.2, h.3)

-- a group of one
pub new_signed : (r : Record) (ps ss more : List Record) → is_signature r ≡ true → ps ≡ [] → ss ≡ [] → more ≡ with_record r ss → AreGrouped ps more
new_signed r ps ss more e no_records none is =
    subst (λ xs. AreGrouped xs more) (sym no_records)
    (subst (AreGrouped []) (sym (is ∙ ap (with_record r) none)) (omega arith, signed_alone r, All-nil (λ x. (x.rtype ≡ RRSIG) × (is_signature x ≡ false)), signed_one r e))

pub new_plain : (r : Record) (ps ss more : List Record) → is_signature r ≡ false → ps ≡ [] → ss ≡ [] → more ≡ with_record r ps → AreGrouped more ss
new_plain r ps ss more e none no_signatures is =
    subst (AreGrouped more) (sym no_signatures)
    (subst (λ xs. AreGrouped xs []) (sym (is ∙ ap (with_record r) none)) (omega arith, plain_alone r, alike_one r e, All-nil (λ x. x.rtype ≡ RRSIG)))

-- The members of a group are of one group with its first, and stay so with one more.
use Rattle.std.proofs.Common.{◌≡◌, ◌<◌, Bool, true, false, cond, List, [], ◌∷◌, ◌++◌, length, sym, ◌∙◌, arith}
use Rattle.std.specs.Prelude.{All}
use Rattle.std.proofs.lemmas.List.Elements.{All-nil, All-head, All-push, All-weaker}
use Rattle.dsec_spec.specs.Names.{place}
use Rattle.dsec_spec.specs.Records.{Record}
use Rattle.dsec_spec.specs.Groups.{is_signature, grouped_type, of_one_group}
use Rattle.dsec_group.specs.Adding.{canonical_of, has_data, led, owner_in, class_in, type_in, with_record, AreAlike, AreGrouped, AreTogether}
use Rattle.dsec_group.proofs.MemberLaws.{group_agree, group_itself, grouped_plain, one_group}

-- two records that are of one group with a third
both : (x y z : Record) → of_one_group x y ≡ true → of_one_group x z ≡ true → of_one_group y z ≡ true
both x y z h k = sym (group_agree x y z h) ∙ k

-- one more of these that one record leads
led_more : (f r : Record) (rs : List Record) → of_one_group f r ≡ true → All (λ x. of_one_group f x ≡ true) rs → All (λ x. of_one_group f x ≡ true) (with_record r rs)
led_more f r rs belongs h = go (has_data (canonical_of r) rs) where
  go : (d : Bool) → All (λ x. of_one_group f x ≡ true) (cond d rs (rs ++ r ∷ []))
  go true = h
  go false = All-push (λ x. of_one_group f x ≡ true) rs r h belongs

led_one : (r : Record) → All (λ x. of_one_group r x ≡ true) (r ∷ [])
led_one r = led_more r r [] (group_itself r) (All-nil (λ x. of_one_group r x ≡ true))

-- a group that took a signature
pub together_signed : (r : Record) (ps ss : List Record) → led r ps ss ≡ true → AreTogether ps ss → AreTogether ps (with_record r ss)
together_signed r (p ∷ ps) ss belongs h = (h.0, led_more p r ss belongs h.1)
together_signed r [] (s ∷ ss) belongs h = go (has_data (canonical_of r) (s ∷ ss)) where
  go : (d : Bool) → AreTogether [] (cond d (s ∷ ss) (s ∷ (ss ++ r ∷ [])))
  go true = h
  go false = (All-nil (λ x. of_one_group s x ≡ true), All-push (λ x. of_one_group s x ≡ true) (s ∷ ss) r h.1 belongs)
together_signed r [] [] belongs h = absurd cc

-- a group that took another record, which leads it where it had none
pub together_plain : (r : Record) (ps ss : List Record) → led r ps ss ≡ true → AreTogether ps ss → AreTogether (with_record r ps) ss
together_plain r (p ∷ ps) ss belongs h = go (has_data (canonical_of r) (p ∷ ps)) where
  go : (d : Bool) → AreTogether (cond d (p ∷ ps) (p ∷ (ps ++ r ∷ []))) ss
  go true = h
  go false = (All-push (λ x. of_one_group p x ≡ true) (p ∷ ps) r h.0 belongs, h.1)
together_plain r [] (s ∷ ss) belongs h =
    (led_one r, All-weaker (λ x. of_one_group s x ≡ true) (λ x. of_one_group r x ≡ true) (λ x k. both s r x belongs k) (s ∷ ss) h.1)
together_plain r [] [] belongs h = absurd cc

-- one record alone
pub signed_alone : (r : Record) → AreTogether [] (r ∷ [])
signed_alone r = (All-nil (λ x. of_one_group r x ≡ true), led_one r)

pub plain_alone : (r : Record) → AreTogether (r ∷ []) []
plain_alone r = (led_one r, All-nil (λ x. of_one_group r x ≡ true))

-- a member is of the group's owner and class
pub stands_so : (r : Record) (ps ss : List Record) → led r ps ss ≡ true → (place r.owner ≡ place (owner_in ps ss)) × (r.class ≡ class_in ps ss)
stands_so r (p ∷ ps) ss h = let one = one_group p r h in (sym one.owner, sym one.class)
stands_so r [] (s ∷ ss) h = let one = one_group s r h in (sym one.owner, sym one.class)
stands_so r [] [] h = absurd cc

-- and is grouped by the type of the records, where there are any
pub covers_so : (s : Record) (ps ss : List Record) → AreAlike ps → 0 < length ps → led s ps ss ≡ true → grouped_type s ≡ type_in ps
covers_so s (p ∷ ps) ss alike some h =
    sym (one_group p s h).grouped ∙ grouped_plain p (All-head (λ x. (x.rtype ≡ p.rtype) × (is_signature x ≡ false)) p ps alike).1
covers_so s [] ss alike some h = absurd (omega (arith, some))

-- the group's owner and class are those of all its records, and of all its signatures
pub records_stand : (ps ss : List Record) → AreGrouped ps ss → All (λ one. (place one.owner ≡ place (owner_in ps ss)) × (one.class ≡ class_in ps ss)) ps
records_stand ps ss h = All-weaker (λ x. led x ps ss ≡ true) (λ one. (place one.owner ≡ place (owner_in ps ss)) × (one.class ≡ class_in ps ss)) (λ x k. stands_so x ps ss k) ps h.1.0

pub signatures_stand : (ps ss : List Record) → AreGrouped ps ss → All (λ one. (place one.owner ≡ place (owner_in ps ss)) × (one.class ≡ class_in ps ss)) ss
signatures_stand ps ss h = All-weaker (λ x. led x ps ss ≡ true) (λ one. (place one.owner ≡ place (owner_in ps ss)) × (one.class ≡ class_in ps ss)) (λ x k. stands_so x ps ss k) ss h.1.1

-- the signatures cover the type of the records
pub signatures_cover : (ps ss : List Record) → AreGrouped ps ss → 0 < length ps → All (λ one. grouped_type one ≡ type_in ps) ss
signatures_cover ps ss h some = All-weaker (λ x. led x ps ss ≡ true) (λ one. grouped_type one ≡ type_in ps) (λ x k. covers_so x ps ss h.2 some k) ss h.1.1

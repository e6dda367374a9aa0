-- The members of one group, and one more of them.
use Rattle.std.proofs.Common.{◌≡◌, ℕ, ◌==◌, nat_eq, Bool, true, false, ◌||◌, ◌&&◌, cond, List, [], ◌∷◌, length, refl, sym, ap, ◌∙◌}
use Rattle.std.proofs.Math.Bool.{not}
use Rattle.std.specs.List.{filter, list_any}
use Rattle.std.specs.Prelude.{if◌then◌else◌}
use Rattle.std.specs.Str.{bytes_eq}
use Rattle.std.proofs.lemmas.Bool.{eqb-true, eq-eqb, and_parts, not-true}
use Rattle.std.proofs.Math.Dec.{eqb-suc-zero}
use Rattle.std.proofs.lemmas.Slice.Eq.{bytes_eq-Decides}
use Rattle.dsec_spec.specs.Names.{Place, place, same_place}
use Rattle.dsec_spec.specs.Numbers.{RRSIG}
use Rattle.dsec_spec.specs.Records.{Record}
use Rattle.dsec_spec.specs.Groups.{Group, is_signature, grouped_type, of_one_group, are_duplicates, plain_records, owner_among}
use Rattle.dsec_spec.proofs.CanonicalNames.{same_place_decides}
use Rattle.dsec_group.specs.Adding.{canonical_of, has_data, group_from, led}
use Rattle.dsec_group.proofs.FirstLaws.{Each, each_kept, each_so}

-- of_one_group, by what it compares
group_test : Place → ℕ → ℕ → Record → Bool
group_test p c t z = same_place p (place z.owner) && (c == z.class) && (t == grouped_type z)

-- are_duplicates, by what it compares
same_test : Place → ℕ → ℕ → List ℕ → Record → Bool
same_test p c t o z = same_place p (place z.owner) && (c == z.class) && (t == z.rtype) && bytes_eq o (canonical_of z)

pub record OneGroup (r s : Record) : Type 0 where
  pub owner : place r.owner ≡ place s.owner
  pub class : r.class ≡ s.class
  pub grouped : grouped_type r ≡ grouped_type s

pub one_group : (r s : Record) → of_one_group r s ≡ true → OneGroup r s
one_group r s h =
    let p = and_parts (same_place (place r.owner) (place s.owner) && (r.class == s.class)) (grouped_type r == grouped_type s) h in
    let q = and_parts (same_place (place r.owner) (place s.owner)) (r.class == s.class) p.0 in
    record { owner = (same_place_decides (place r.owner) (place s.owner)).0 q.0; class = eqb-true _ _ q.1; grouped = eqb-true _ _ p.1 }

pub group_itself : (r : Record) → of_one_group r r ≡ true
group_itself r = rw ((same_place_decides (place r.owner) (place r.owner)).1 refl, eq-eqb r.class r.class refl, eq-eqb (grouped_type r) (grouped_type r) refl) refl

pub group_agree : (x y z : Record) → of_one_group x y ≡ true → of_one_group x z ≡ of_one_group y z
unfolding group_test
group_agree x y z h =
    let one = one_group x y h in
    ap (λ p. group_test p x.class (grouped_type x) z) one.owner ∙ ap (λ c. group_test (place y.owner) c (grouped_type x) z) one.class ∙ ap (λ t. group_test (place y.owner) y.class t z) one.grouped

pub same_itself : (r : Record) → are_duplicates r r ≡ true
same_itself r =
    rw ((same_place_decides (place r.owner) (place r.owner)).1 refl, eq-eqb r.class r.class refl, eq-eqb r.rtype r.rtype refl, (bytes_eq-Decides (canonical_of r) (canonical_of r)).1 refl) refl

pub same_agree : (x y z : Record) → are_duplicates x y ≡ true → are_duplicates x z ≡ are_duplicates y z
unfolding same_test
same_agree x y z h =
    let p = and_parts (same_place (place x.owner) (place y.owner) && (x.class == y.class) && (x.rtype == y.rtype)) (bytes_eq (canonical_of x) (canonical_of y)) h in
    let q = and_parts (same_place (place x.owner) (place y.owner) && (x.class == y.class)) (x.rtype == y.rtype) p.0 in
    let s = and_parts (same_place (place x.owner) (place y.owner)) (x.class == y.class) q.0 in
    ap (λ a. same_test a x.class x.rtype (canonical_of x) z) ((same_place_decides (place x.owner) (place y.owner)).0 s.0)
    ∙ ap (λ c. same_test (place y.owner) c x.rtype (canonical_of x) z) (eqb-true _ _ s.1)
    ∙ ap (λ t. same_test (place y.owner) y.class t (canonical_of x) z) (eqb-true _ _ q.1)
    ∙ ap (λ o. same_test (place y.owner) y.class y.rtype o z) ((bytes_eq-Decides (canonical_of x) (canonical_of y)).0 p.1)

-- f leads these records and signatures
abbrev pub Leads : Record → List Record → List Record → Type 0
Leads f (p ∷ ps) signatures = (of_one_group f p ≡ true) × (is_signature p ≡ false)
Leads f [] (s ∷ ss) = f ≡ s
Leads f [] [] = ⊥

-- a group, by its records and signatures
abbrev pub led_by : Record → List Record → List Record → Bool → Group
led_by f ps ss had = record {
  owner = owner_among f ps;
  class = f.class;
  rtype = if nat_eq (length ps) 0 then RRSIG else grouped_type f;
  records = ps;
  signatures = ss;
  extra = [];
  had_duplicate = had;
}

pub grouped_plain : (r : Record) → is_signature r ≡ false → grouped_type r ≡ r.rtype
grouped_plain r e = rw e refl

pub led_is : (f : Record) (ps ss : List Record) (had : Bool) → Leads f ps ss → led_by f ps ss had ≡ group_from ps ss had
led_is f (p ∷ ps) ss had h =
    let one = one_group f p h.0 in
    rw (one.class, one.grouped ∙ grouped_plain p h.1, eqb-suc-zero (length ps)) refl
led_is f [] (s ∷ ss) had h = rw h refl
led_is f [] [] had h = absurd h

pub belongs_is : (f r : Record) (ps ss : List Record) → Leads f ps ss → led r ps ss ≡ of_one_group f r
belongs_is f r (p ∷ ps) ss h = sym (group_agree f p r h.0)
belongs_is f r [] (s ∷ ss) h = ap (λ x. of_one_group x r) (sym h)
belongs_is f r [] [] h = absurd h

plain_only : (f : Record) (xs : List Record) → Each (λ m. of_one_group f m ≡ true) xs → Each (λ m. (of_one_group f m ≡ true) × (is_signature m ≡ false)) (plain_records xs)
plain_only f xs h =
    each_so (λ m. (of_one_group f m ≡ true) × (not (is_signature m) ≡ true)) (λ m. (of_one_group f m ≡ true) × (is_signature m ≡ false)) (λ m k. (k.0, not-true (is_signature m) k.1)) (plain_records xs)
    (each_kept (λ m. of_one_group f m ≡ true) (λ m. not (is_signature m)) xs h)

leads_signed : (f : Record) (ps ss : List Record) → Each (λ m. (of_one_group f m ≡ true) × (is_signature m ≡ false)) ps → Leads f ps (f ∷ ss)
leads_signed f [] ss h = refl
leads_signed f (p ∷ ps) ss h = h.0

pub leads_all : (f : Record) (xs : List Record) → Each (λ m. of_one_group f m ≡ true) xs → Leads f (plain_records (f ∷ xs)) (filter is_signature (f ∷ xs))
leads_all f xs h = go (is_signature f) refl where
  go : (b : Bool) → is_signature f ≡ b → Leads f (cond (not b) (f ∷ plain_records xs) (plain_records xs)) (cond b (f ∷ filter is_signature xs) (filter is_signature xs))
  go true e = leads_signed f (plain_records xs) (filter is_signature xs) (plain_only f xs h)
  go false e = (group_itself f, e)

-- which members a record may be a duplicate of
module _ (r : Record) where
  -- two members are duplicates where they are of one kind with equal data
  same_kind : (x : Record) (q : Bool) → of_one_group x r ≡ true → (x.rtype == r.rtype) ≡ q → (q && bytes_eq (canonical_of x) (canonical_of r)) ≡ are_duplicates x r
  same_kind x q h e =
      let one = one_group x r h in
      rw ((same_place_decides (place x.owner) (place r.owner)).1 one.owner, eq-eqb x.class r.class one.class, e) refl

  data_step : (b d t : Bool) (x : Record) (ys : List Record) → (b && bytes_eq (canonical_of x) (canonical_of r)) ≡ d → has_data (canonical_of r) ys ≡ t
      → has_data (canonical_of r) (cond b (x ∷ ys) ys) ≡ (d || t)
  data_step true d t x ys e h = rw (e, h) refl
  data_step false d t x ys e h = rw (sym e) h

  pub has_is : (q : Record → Bool) (xs : List Record) → Each (λ x. (of_one_group x r ≡ true) × ((x.rtype == r.rtype) ≡ q x)) xs
      → has_data (canonical_of r) (filter q xs) ≡ list_any (λ x. are_duplicates x r) xs
  has_is q [] h = refl
  has_is q (x ∷ xs) h = data_step (q x) (are_duplicates x r) (list_any (λ x. are_duplicates x r) xs) x (filter q xs) (same_kind x (q x) h.0.0 h.0.1) (has_is q xs h.1)

  -- of a signature's group those of its type are the signatures
  signed_kind : is_signature r ≡ true → (x : Record) → (x.rtype == r.rtype) ≡ is_signature x
  signed_kind e x = ap (λ t. x.rtype == t) (eqb-true r.rtype RRSIG e)

  -- of another record's group those of its type are the records
  plain_kind : is_signature r ≡ false → (x : Record) → of_one_group x r ≡ true → (x.rtype == r.rtype) ≡ not (is_signature x)
  plain_kind e x h = go (is_signature x) refl where
    turned_test : (a b : ℕ) → (a == b) ≡ (b == a)
    turned_test a b = turn (a == b) (b == a) refl refl where
      turn : (s t : Bool) → (a == b) ≡ s → (b == a) ≡ t → s ≡ t
      turn true true u v = refl
      turn false false u v = refl
      turn true false u v = sym (eq-eqb b a (sym (eqb-true a b u))) ∙ v
      turn false true u v = sym u ∙ eq-eqb a b (sym (eqb-true b a v))

    go : (b : Bool) → is_signature x ≡ b → (x.rtype == r.rtype) ≡ not b
    go true s = ap (λ t. t == r.rtype) (eqb-true x.rtype RRSIG s) ∙ turned_test RRSIG r.rtype ∙ e
    go false s = eq-eqb x.rtype r.rtype (sym (grouped_plain x s) ∙ (one_group x r h).grouped ∙ grouped_plain r e)

  pub each_signed : is_signature r ≡ true → (xs : List Record) → Each (λ x. of_one_group x r ≡ true) xs → Each (λ x. (of_one_group x r ≡ true) × ((x.rtype == r.rtype) ≡ is_signature x)) xs
  each_signed e [] h = tt
  each_signed e (x ∷ xs) h = ((h.0, signed_kind e x), each_signed e xs h.1)

  pub each_plain : is_signature r ≡ false → (xs : List Record) → Each (λ x. of_one_group x r ≡ true) xs → Each (λ x. (of_one_group x r ≡ true) × ((x.rtype == r.rtype) ≡ not (is_signature x))) xs
  each_plain e [] h = tt
  each_plain e (x ∷ xs) h = ((h.0, plain_kind e x h.0), each_plain e xs h.1)

-- Data taken octet by octet, as signatures take them.
use Rattle.std.proofs.Common.{◌≡◌, ℕ, Bool, true, false, List, [], ◌∷◌, ◌++◌, length, take, drop, Option, Some, None, refl, sym, ap, ◌∙◌, arith}
use Rattle.std.specs.Prelude.{IsTrue, unwrap_or}
use Rattle.std.specs.Option.{is_some, option_map}
use Rattle.std.specs.Cmp.Lexicographic.{slice_cmp}
use Rattle.std.specs.Ordering.{nat_cmp, ordering_then}
use Rattle.std.specs.FinMap.{nat_cmp-IsAntisymmetric}
use Rattle.std.specs.declared.cmp.Ordering.{Ordering}
use Rattle.std.specs.declared.cmp.Ordering.TheVariants.{Less, Equal, Greater}
use Rattle.std.proofs.lemmas.Bool.{false≢true}
use Rattle.std.proofs.lemmas.Cmp.{tied_itself, nat_cmp_total}
use Rattle.dsec_spec.specs.Layouts as layouts
use Rattle.dsec_spec.specs.RecordData.{canonical_part, parts_in}
use Rattle.dsec_spec.proofs.CanonicalDataLemmas.{canonical_in-cons, canonical_in-none}
use Rattle.dsec_wire.specs.Canonical.{canonical_in, canonical_piece}
use Rattle.dsec_wire.specs.Fields.{part_size_in}
use Rattle.dsec_wire.specs.SignedOctets.{in_case}
use Rattle.dsec_wire.proofs.FieldLoops.{from_part_size, no_part}
use Rattle.dsec_wire.proofs.CanonicalLoops.{piece_of_part}

-- so much is left where a piece is in front
abbrev pub with_front : List ℕ → Option (List ℕ) → Option (List ℕ)
with_front front others = option_map (λ x. front ++ x) others

pub nothing_in_front : (o : Option (List ℕ)) → with_front [] o ≡ o
nothing_in_front (Some x) = refl
nothing_in_front None = refl

pub one_in_front : (first : ℕ) (front : List ℕ) (o : Option (List ℕ)) → with_front (first ∷ front) o ≡ option_map (λ x. first ∷ x) (with_front front o)
one_in_front first front (Some x) = refl
one_in_front first front None = refl

-- a field more
pub field_taken : (field : layouts.Field) (fields : List layouts.Field) (x : List ℕ) (size : ℕ) → part_size_in field x ≡ Some size
    → with_front (canonical_piece field (take size x)) (canonical_in fields (drop size x)) ≡ canonical_in (field ∷ fields) x
field_taken field fields x size e =
    let takes = from_part_size field x size e in
    let piece : canonical_piece field (take size x) ≡ canonical_part takes.part = ap (canonical_piece field) (sym takes.octets) ∙ piece_of_part field takes.part takes.fits in
    ap (λ (p : List ℕ). with_front p (canonical_in fields (drop size x))) piece ∙ sym (canonical_in-cons field fields x (drop size x) takes.part takes.read)

-- which takes some, where the octets are readable
pub field_takes : (field : layouts.Field) (fields : List layouts.Field) (x : List ℕ) → IsTrue (is_some (canonical_in (field ∷ fields) x)) → (size : ℕ) × (part_size_in field x ≡ Some size)
field_takes field fields x readable =
    elim (part_size_in field x) as (λ o. part_size_in field x ≡ o → (size : ℕ) × (part_size_in field x ≡ Some size)) [
      | Some size ↦ λ e. (size, e)
      | None ↦ λ e. absurd (false≢true (sym (ap is_some (canonical_in-none field fields x (no_part field x e))) ∙ readable))
    ] refl

-- where no field is left, nothing is
pub no_field : (x : List ℕ) → IsTrue (is_some (canonical_in [] x)) → canonical_in [] x ≡ Some []
unfolding parts_in
no_field [] readable = refl
no_field (first ∷ x) readable = absurd (false≢true readable)

-- ---- two strings of octets

pub same_first : (a b : ℕ) (xs ys : List ℕ) → a ≡ b → slice_cmp nat_cmp (a ∷ xs) (b ∷ ys) ≡ slice_cmp nat_cmp xs ys
same_first a b xs ys e = rw (e, tied_itself nat_cmp_total b) refl

pub other_first : (a b : ℕ) (xs ys : List ℕ) → (a ≡ b → ⊥) → slice_cmp nat_cmp (a ∷ xs) (b ∷ ys) ≡ nat_cmp a b
other_first a b xs ys apart = elim (nat_cmp a b) as (λ o. nat_cmp a b ≡ o → ordering_then o (slice_cmp nat_cmp xs ys) ≡ o) [
  | Less ↦ λ e. refl
  | Equal ↦ λ e. absurd (apart (nat_cmp-IsAntisymmetric a b e))
  | Greater ↦ λ e. refl
] refl

-- what is left, after its first
pub value_after : (o p : Option (List ℕ)) (first : ℕ) → o ≡ option_map (λ x. first ∷ x) p → IsTrue (is_some o) → (unwrap_or o [] ≡ first ∷ unwrap_or p []) × IsTrue (is_some p)
value_after o (Some x) first e some = (ap (λ (q : Option (List ℕ)). unwrap_or q []) e, refl)
value_after o None first e some = absurd (false≢true (sym (ap is_some e) ∙ some))

-- ---- a field after another

pub nothing_of_part : (low : Bool) (part : List ℕ) (fields : List layouts.Field) (x : List ℕ) → part ≡ [] → with_front (in_case low part) (canonical_in fields x) ≡ canonical_in fields x
nothing_of_part true part fields x e = rw e (nothing_in_front (canonical_in fields x))
nothing_of_part false part fields x e = rw e (nothing_in_front (canonical_in fields x))

pub no_more : {A : Type 0} (xs : List A) → length xs ≡ 0 → xs ≡ []
no_more [] e = refl
no_more (x ∷ xs) e = absurd (omega (arith, e))

pub at_end : (low : Bool) (part : List ℕ) (fields : List layouts.Field) (x : List ℕ) → part ≡ [] → fields ≡ [] → IsTrue (is_some (with_front (in_case low part) (canonical_in fields x)))
    → with_front (in_case low part) (canonical_in fields x) ≡ Some []
at_end low part fields x e f readable =
    let is = nothing_of_part low part fields x e ∙ ap (λ (fs : List layouts.Field). canonical_in fs x) f in
    is ∙ no_field x (sym (ap is_some is) ∙ readable)

pub at_next : (low next : Bool) (part : List ℕ) (field : layouts.Field) (fields before : List layouts.Field) (x : List ℕ) (size : ℕ)
    → part ≡ [] → before ≡ field ∷ fields → ((y : List ℕ) → in_case next y ≡ canonical_piece field y) → size ≡ unwrap_or (part_size_in field x) 0
    → IsTrue (is_some (with_front (in_case low part) (canonical_in before x)))
    → with_front (in_case next (take size x)) (canonical_in fields (drop size x)) ≡ with_front (in_case low part) (canonical_in before x)
at_next low next part field fields before x size e f piece is readable =
    let whole : with_front (in_case low part) (canonical_in before x) ≡ canonical_in (field ∷ fields) x = nothing_of_part low part before x e ∙ ap (λ (fs : List layouts.Field). canonical_in fs x) f in
    let takes = field_takes field fields x (sym (ap is_some whole) ∙ readable) in
    let same : size ≡ takes.0 = is ∙ ap (λ (o : Option ℕ). unwrap_or o 0) takes.1 in
    rw (same, piece (take takes.0 x)) (field_taken field fields x takes.0 takes.1 ∙ sym whole)

-- ---- two strings that compare so, once their first octets are taken

module _ (xs ys : List ℕ) (w : Ordering) (so : slice_cmp nat_cmp xs ys ≡ w) where
  pub after_same : (a b : ℕ) (xs' ys' : List ℕ) → xs ≡ a ∷ xs' → ys ≡ b ∷ ys' → a ≡ b → slice_cmp nat_cmp xs' ys' ≡ w
  after_same a b xs' ys' e f same = sym (same_first a b xs' ys' same) ∙ (rw (e, f) at so)

  pub after_other : (a b : ℕ) (xs' ys' : List ℕ) → xs ≡ a ∷ xs' → ys ≡ b ∷ ys' → (a ≡ b → ⊥) → nat_cmp a b ≡ w
  after_other a b xs' ys' e f apart = sym (other_first a b xs' ys' apart) ∙ (rw (e, f) at so)

  pub left_longer : (a : ℕ) (xs' : List ℕ) → xs ≡ a ∷ xs' → ys ≡ [] → Greater ≡ w
  left_longer a xs' e f = rw (e, f) at so

  pub right_longer : (b : ℕ) (ys' : List ℕ) → xs ≡ [] → ys ≡ b ∷ ys' → Less ≡ w
  right_longer b ys' e f = rw (e, f) at so

  pub both_end : xs ≡ [] → ys ≡ [] → Equal ≡ w
  both_end e f = rw (e, f) at so

-- nothing is left
pub value_at_end : (o : Option (List ℕ)) → o ≡ Some [] → unwrap_or o [] ≡ []
value_at_end o e = rw e refl

-- What a DNAME record maps a name to is the name with the record's owner replaced by its target (RFC 6672 2.2).
use Rattle.std.proofs.Common.{◌≡◌, ℕ, ◌+◌, ◌-◌, ◌<◌, ◌≤◌, Bool, true, false, cond, ◌∷◌, ◌++◌, length, take, drop, map, reverse, Some, None, refl, sym, ap, ◌∙◌, arith, length-append, length-drop, take-append-drop, take_at}
use Rattle.std.specs.Prelude.{nat_lt}
use Rattle.std.specs.Char.{to_ascii_lowercase}
use Rattle.std.proofs.lemmas.Bool.{ltb-true, ltb-false}
use Rattle.std.proofs.lemmas.List.{length-map, length-reverse, map-append, reverse-append}
use Rattle.dsec_spec.specs.Names.{Labels, place, lower, wire_length, IsStrictlyBelow}
use Rattle.dsec_spec.specs.Redirection.{fitting}
use Rattle.dsec_alias.specs.Paths.{IsReplaced}

-- a place has as many labels as the name
pub length-place : (name : Labels) → length (place name) ≡ length name
length-place name = length-reverse (lower name) ∙ length-map name (map to_ascii_lowercase)

-- the place of a name in two parts
pub place-append : (m n : Labels) → place (m ++ n) ≡ place n ++ place m
place-append m n = ap reverse (map-append (map to_ascii_lowercase) m n) ∙ reverse-append (lower m) (lower n)

module _ (owner target name : Labels) where
  abbrev before : ℕ
  before = length name - length owner

  -- the labels after those before the owner's are the owner's
  ends_at_owner : IsStrictlyBelow (place name) (place owner) → place (drop before name) ≡ place owner
  ends_at_owner below =
      let long = ap length below.is in
      let all : length name ≡ length owner + length (below.next ∷ below.under) =
      sym (length-place name) ∙ (long ∙ (length-append (place owner) (below.next ∷ below.under) ∙ ap (λ (n : ℕ). n + length (below.next ∷ below.under)) (length-place owner))) in
      let left : length (place (drop before name)) ≡ length owner = length-place (drop before name) ∙ omega (arith, length-drop before name, all) in
      let parts : place (drop before name) ++ place (take before name) ≡ place owner ++ below.next ∷ below.under =
      sym (place-append (take before name) (drop before name)) ∙ (ap place (take-append-drop before name) ∙ below.is) in
      sym (take_at (place (drop before name)) (place (take before name)) (length owner) left)
      ∙ (ap (take (length owner)) parts ∙ take_at (place owner) (below.next ∷ below.under) (length owner) (length-place owner))

  -- so the labels before them, and then the target's, are the name with the owner replaced
  pub replaced_is : IsStrictlyBelow (place name) (place owner) → IsReplaced owner target name (take before name ++ target)
  replaced_is below = record {
    before = take before name;
    above = drop before name;
    ends = sym (take-append-drop before name);
    at_owner = ends_at_owner below;
    is = refl;
  }

  -- and there is no other
  pub replaced_told : (mapped : Labels) → IsReplaced owner target name mapped → mapped ≡ take before name ++ target
  replaced_told mapped r =
      let as_long : length r.above ≡ length owner = sym (length-place r.above) ∙ (ap length r.at_owner ∙ length-place owner) in
      let all : length name ≡ length r.before + length r.above = ap length r.ends ∙ length-append r.before r.above in
      let front : length r.before ≡ before = omega (arith, as_long, all) in
      r.is ∙ ap (λ (x : Labels). x ++ target) (sym (take_at r.before r.above before front) ∙ ap (take before) (sym r.ends))

-- a name that fits, and one that doesn't
pub fitting_is : (labels name : Labels) → fitting labels ≡ Some name → (labels ≡ name) × (wire_length labels ≤ 255)
fitting_is labels name e = by (nat_lt 255 (wire_length labels)) refl e
  where
    by : (b : Bool) → nat_lt 255 (wire_length labels) ≡ b → cond b None (Some labels) ≡ Some name → (labels ≡ name) × (wire_length labels ≤ 255)
    by true f g = absurd cc
    by false f g = let most = ltb-false 255 (wire_length labels) f in (cc, omega (arith, most))

pub unfitting_is : (labels : Labels) → fitting labels ≡ None → 255 < wire_length labels
unfitting_is labels e = by (nat_lt 255 (wire_length labels)) refl e
  where
    by : (b : Bool) → nat_lt 255 (wire_length labels) ≡ b → cond b None (Some labels) ≡ None → 255 < wire_length labels
    by true f g = ltb-true 255 (wire_length labels) f
    by false f g = absurd cc

pub fitting_told : (labels : Labels) → wire_length labels ≤ 255 → fitting labels ≡ Some labels
fitting_told labels h = by (nat_lt 255 (wire_length labels)) refl
  where
    by : (b : Bool) → nat_lt 255 (wire_length labels) ≡ b → cond b None (Some labels) ≡ Some labels
    by true f = let more = ltb-true 255 (wire_length labels) f in absurd (omega (arith, more, h))
    by false f = refl

pub unfitting_told : (labels : Labels) → 255 < wire_length labels → fitting labels ≡ None
unfitting_told labels h = by (nat_lt 255 (wire_length labels)) refl
  where
    by : (b : Bool) → nat_lt 255 (wire_length labels) ≡ b → cond b None (Some labels) ≡ None
    by true f = refl
    by false f = let most = ltb-false 255 (wire_length labels) f in absurd (omega (arith, most, h))

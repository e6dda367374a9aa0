-- One owner more, inside the zone or not.
use Rattle.std.proofs.Common.{◌≡◌, suc, ◌<◌, true, false, cond, Bool, ◌||◌, List, [], ◌∷◌, ◌++◌, length, Option, Some, refl, sym, ap, ◌∙◌, subst, inl, inr, arith, length-append}
use Rattle.std.specs.Prelude.{Contains}
use Rattle.dsec_spec.specs.Names.{Labels, Place, place, Before}
use Rattle.dsec_spec.specs.Records.{Record}
use Rattle.dsec_spec.specs.CanonicalRecords.{AreOrdered}
use Rattle.dsec_spec.specs.OwnersInside.{Inside}
use Rattle.dsec_spec.proofs.Members.{in_back}
use Rattle.dsec_spec.proofs.NameOrder.{in_order}
use Rattle.dsec_sorted.specs.OwnersOf.{IsFirstOwner}
use Rattle.dsec_chain.specs.Walk.{is_open, cuts}
use Rattle.dsec_chain.specs.Views.{cut_place}
use Rattle.dsec_chain.proofs.InsideWalk.{Entered, passed, added, inside_owner}

ordered_back : (xs ys : List Record) → AreOrdered (xs ++ ys) → AreOrdered ys
ordered_back [] ys h = h
ordered_back (x ∷ xs) ys h = ordered_back xs ys (λ i j d lt lj. h (suc i) (suc j) d (omega arith) (omega arith))

-- no later record is before the first
not_before_first : (x : Record) (xs : List Record) (y : Record) → AreOrdered (x ∷ xs) → Contains xs y → Before (place y.owner) (place x.owner) → ⊥
not_before_first x xs y ordered h = subst (λ (r : Record). Before (place r.owner) (place x.owner) → ⊥) h.2 (ordered 0 (suc h.0) y (omega arith) (let below = h.1 in omega arith))

module _ (apex : Place) (records rest : List Record) (cut : Option Place) (owners : List Inside) (name : Labels) (mine after : List Record)
    (w : Entered apex records rest cut owners) (ordered : AreOrdered records) (o : IsFirstOwner rest name mine after) where
  rest_ordered : AreOrdered (o.first ∷ (o.others ++ after))
  rest_ordered = subst AreOrdered (o.split ∙ ap (λ (xs : List Record). xs ++ after) o.head) (ordered_back w.done rest (subst AreOrdered w.split ordered))

  whole : Entered apex records (mine ++ after) cut owners
  whole = subst (λ (xs : List Record). Entered apex records xs cut owners) o.split w

  others_after : (y : Record) → Contains after y → Before (place name) (place y.owner)
  others_after y h = elim (in_order (place name) (place y.owner)) [
    | inl before ↦ before
    | inr (inl same) ↦ absurd (o.only y h (sym same))
    | inr (inr behind) ↦ absurd (not_before_first o.first (o.others ++ after) y rest_ordered (in_back y o.others after h) (subst (λ (n : Labels). Before (place y.owner) (place n)) o.name_is behind))
  ]

  pub step_passed : is_open apex cut (place name) ≡ false → Entered apex records after cut owners
  step_passed closed = passed apex records mine after cut owners name whole o.all o.first o.others o.head o.name_is others_after closed

  pub step_added : is_open apex cut (place name) ≡ true → Entered apex records after (cond (cuts apex mine) (Some (place name)) cut) (owners ++ inside_owner name mine (cuts apex mine) ∷ [])
  step_added so = added apex records mine after cut owners name whole o.all o.first o.others o.head o.name_is others_after so

-- fewer records are left
pub fewer : (records : List Record) (name : Labels) (mine rest : List Record) → IsFirstOwner records name mine rest → length rest < length records
fewer records name mine rest o = let e = ap length o.split in let f = ap length o.head in omega (arith, e, f, length-append mine rest)

-- the last delegation, once an owner was met
pub cut_after : (has is : Bool) (name cut : Labels) → cut_place (has || is) (cond is name cut) ≡ cond is (Some (place name)) (cut_place has cut)
cut_after true true name cut = refl
cut_after true false name cut = refl
cut_after false true name cut = refl
cut_after false false name cut = refl

-- What is heard, one question after the other.
use Rattle.std.proofs.Common.{◌≡◌, ℕ, List, [], ◌∷◌, ◌++◌, map, Option, Some, None, refl, sym, ap, ◌∙◌, subst, append-nil}
use Rattle.std.proofs.lemmas.List.{append_assoc, map-append}
use Rattle.dsec_spec.specs.Names.{Labels, place}
use Rattle.dsec_spec.specs.Outside.{Entry, heard_more}
use Rattle.dsec_nodes.specs.Machine.{Question as Asked}
use Rattle.dsec_lookup.specs.Outside.{HeardMore, asked_by}

-- one question was heard
pub heard_one : (told now : Option (List Entry)) (name : Labels) (rtype : ℕ) (reply : Option (List ℕ))
    → now ≡ heard_more told (record { name = name; rtype = rtype; reply = reply })
    → HeardMore told now (record { name = place name; rtype = rtype; reply = reply } ∷ [])
heard_one None now name rtype reply e = e
heard_one (Some before) now name rtype reply e = (record { name = name; rtype = rtype; reply = reply } ∷ [], e, refl)

-- nothing was heard
pub heard_none : (told : Option (List Entry)) → HeardMore told told []
heard_none None = refl
heard_none (Some before) = ([], ap Some (sym (append-nil before)), refl)

-- what was heard, and then more
pub heard_then : (told now next : Option (List Entry)) (asked more : List Asked) → HeardMore told now asked → HeardMore now next more
    → HeardMore told next (asked ++ more)
heard_then None now next asked more e h = subst (λ (z : Option (List Entry)). HeardMore z next more) e h
heard_then (Some before) now next asked more (es, e, m) h = by (subst (λ (z : Option (List Entry)). HeardMore z next more) e h)
  where
    by : HeardMore (Some (before ++ es)) next more → HeardMore (Some before) next (asked ++ more)
    by (fs, f, n) =
        (es ++ fs, f ∙ ap Some (append_assoc before es fs), map-append asked_by es fs ∙ (ap (λ (qs : List Asked). qs ++ map asked_by fs) m ∙ ap (λ (qs : List Asked). asked ++ qs) n))

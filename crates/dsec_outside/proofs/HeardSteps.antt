-- One answer more is kept.
use Rattle.std.proofs.Common.{◌≡◌, ℕ, List, [], ◌∷◌, ◌++◌, map, Option, Some, ap, ◌∙◌}
use Rattle.std.proofs.lemmas.List.{map-append}
use Rattle.dsec_spec.specs.Names.{Labels}
use Rattle.dsec_spec.specs.Outside.{Entry}
use Rattle.dsec_outside.specs.Hearing.{entry, entry_of}
use Rattle.dsec_outside.specs.declared.heard.Heard.{Heard}

pub heard_pushed : (old before new : List Heard) (one : Heard) (name : Labels) (rtype : ℕ) (reply : Option (List ℕ)) → new ≡ before ++ one ∷ [] → before ≡ old
    → one.name ≡ name → one.rtype ≡ rtype → one.reply ≡ reply → Some (map entry_of new) ≡ Some (map entry_of old ++ entry name rtype reply ∷ [])
heard_pushed old before new one name rtype reply e f n r p =
    let same : entry_of one ≡ entry name rtype reply =
    ap (λ (x : Labels). entry x one.rtype one.reply) n ∙ (ap (λ (x : ℕ). entry name x one.reply) r ∙ ap (λ (x : Option (List ℕ)). entry name rtype x) p) in
    ap Some (ap (map entry_of) (e ∙ ap (λ (xs : List Heard). xs ++ one ∷ []) f)
    ∙ (map-append entry_of old (one ∷ []) ∙ ap (λ (x : Entry). map entry_of old ++ x ∷ []) same))

-- The octets of a name's first labels, and of those after them.
use Rattle.std.proofs.Common.{◌≡◌, ℕ, zero, suc, ◌+◌, ◌-◌, ◌<◌, ◌≤◌, List, [], ◌∷◌, ◌++◌, length, take, drop, refl, sym, ap, ◌∙◌, arith, length-append}
use Rattle.std.specs.Prelude.{Ok}
use Rattle.std.proofs.Math.Seq.{take-append_seam, drop-append_seam}
use Rattle.std.proofs.lemmas.List.{drop-drop, take-append-drop}
use Rattle.std.proofs.lemmas.List.Concat.{flat_map-append}
use Rattle.std.proofs.lemmas.List.Elements.{All-append, All-take}
use Rattle.dsec_spec.specs.Names.{Labels, IsLabel, IsName, label_octets, wire_length}
use Rattle.std.proofs.lemmas.Bool.Decides.{nat_tests}
use Rattle.dsec_name.specs.JoinedNames.{name_or_long}
use Rattle.dsec_name.specs.Keys.{labels_of, labels_octets}
use Rattle.dsec_name.proofs.NameParts.{IsName-tail, labels_of-octets, length-octets}

pub IsName-drop : (n : ℕ) (name : Labels) → IsName name → IsName (drop n name)
IsName-drop zero name h = h
IsName-drop (suc n) [] h = h
IsName-drop (suc n) (label ∷ name) h = IsName-drop n name (IsName-tail label name h)

-- the octets after the first label
one_less : (name : Labels) (k : ℕ) (after : List ℕ) → labels_octets name ≡ k ∷ after → drop k after ≡ labels_octets (drop 1 name)
one_less [] k after e = absurd (let f : 0 ≡ suc (length after) = ap length e in omega arith)
one_less (label ∷ name) k after e =
    let f : length label ∷ (label ++ labels_octets name) ≡ k ∷ after = e in
    let long : k ≡ length label = cc in
    let is : after ≡ label ++ labels_octets name = cc in
    rw (long, is) (drop-append_seam label (labels_octets name))

pub next_labels : (name : Labels) (i k : ℕ) (rest after next : List ℕ) → rest ≡ labels_octets (drop i name) → rest ≡ k ∷ after → next ≡ drop k after
    → next ≡ labels_octets (drop (i + 1) name)
next_labels name i k rest after next from split is =
    is ∙ (one_less (drop i name) k after (sym from ∙ split) ∙ ap labels_octets (drop-drop 1 i name))

-- where there are no octets left there are no labels left
pub ended : (name : Labels) (i n : ℕ) → labels_octets (drop i name) ≡ [] → i ≤ n → labels_octets (drop n name) ≡ []
ended [] zero zero e h = refl
ended [] zero (suc n) e h = refl
ended [] (suc i) zero e h = absurd (omega arith)
ended [] (suc i) (suc n) e h = refl
ended (label ∷ name) zero n e h = absurd (let f : suc (length (label ++ labels_octets name)) ≡ 0 = ap length e in omega arith)
ended (label ∷ name) (suc i) zero e h = absurd (omega arith)
ended (label ∷ name) (suc i) (suc n) e h = ended name i n e (omega arith)

parted : (n : ℕ) (name : Labels) → labels_octets name ≡ labels_octets (take n name) ++ labels_octets (drop n name)
parted n name = ap labels_octets (sym (take-append-drop n name)) ∙ flat_map-append label_octets (take n name) (drop n name)

-- the octets of the first labels
pub front_octets : (n : ℕ) (name : Labels) → take (length (labels_octets name) - length (labels_octets (drop n name))) (labels_octets name) ≡ labels_octets (take n name)
front_octets n name =
    let front = labels_octets (take n name) in
    let rest = labels_octets (drop n name) in
    let size : length (labels_octets name) - length rest ≡ length front = omega (arith, ap length (parted n name), length-append front rest) in
    rw (size, parted n name) (take-append_seam front rest)

-- first labels and a name's after them are a name, where they are short
pub IsName-joined : (n : ℕ) (name base : Labels) → IsName name → IsName base → length (labels_octets (take n name)) + length (labels_octets base) < 255 → IsName (take n name ++ base)
IsName-joined n name base h b short = record {
  labels = All-append IsLabel (take n name) base (All-take IsLabel n name h.labels) b.labels;
  at_most = omega (arith, short, length-octets (take n name ++ base), ap length (flat_map-append label_octets (take n name) base), length-append (labels_octets (take n name)) (labels_octets base));
}

pub joined_octets : (n : ℕ) (name base : Labels) → labels_octets (take n name) ++ labels_octets base ≡ labels_octets (take n name ++ base)
joined_octets n name base = sym (flat_map-append label_octets (take n name) base)

-- the octets after the first labels are a name's, and no more than all
pub after_whole : (n : ℕ) (name : Labels) (octets rest : List ℕ) → IsName name → octets ≡ labels_octets name → rest ≡ labels_octets (drop n (labels_of octets)) → rest ≡ labels_octets (drop n name)
after_whole n name octets rest h is after = after ∙ ap (λ (ls : Labels). labels_octets (drop n ls)) (ap labels_of is ∙ labels_of-octets name)

pub no_longer : (n : ℕ) (name : Labels) → length (labels_octets (drop n name)) ≤ length (labels_octets name)
no_longer n name = omega (arith, ap length (parted n name), length-append (labels_octets (take n name)) (labels_octets (drop n name)))

-- what two pieces come to, where they are short enough, and where they aren't
pub joined_long : (n : ℕ) (name base : Labels) → 255 ≤ length (labels_octets (take n name)) + length (labels_octets base) → 255 < wire_length (take n name ++ base)
joined_long n name base long = omega (arith, long, length-octets (take n name ++ base), ap length (flat_map-append label_octets (take n name) base), length-append (labels_octets (take n name)) (labels_octets base))

-- the octets before the rest are those of the first labels
pub front_is : (n : ℕ) (name : Labels) (octets rest : List ℕ) → IsName name → octets ≡ labels_octets name → rest ≡ labels_octets (drop n (labels_of octets))
    → take (length octets - length rest) octets ≡ labels_octets (take n name)
front_is n name octets rest h is after =
    ap (λ (k : ℕ). take (length octets - k) octets) (ap length (after_whole n name octets rest h is after))
    ∙ (ap (λ (x : List ℕ). take (length x - length (labels_octets (drop n name))) x) is ∙ front_octets n name)

-- two pieces that were joined by steps
pub pieces : (n : ℕ) (name base : Labels) (front end was first second : List ℕ) → front ≡ labels_octets (take n name) → end ≡ labels_octets base
    → was ≡ [] → first ≡ was ++ front → second ≡ first ++ end → second ≡ labels_octets (take n name ++ base)
pieces n name base front end was first second begins ends none one two =
    two ∙ (ap (λ (x : List ℕ). x ++ end) (one ∙ ap (λ (x : List ℕ). x ++ front) none ∙ begins)
    ∙ (ap (λ (x : List ℕ). labels_octets (take n name) ++ x) ends ∙ joined_octets n name base))

pub fits_name : (name : Labels) → IsName name → name_or_long name ≡ Ok name
fits_name name h = let short = h.at_most in grind (arith, nat_tests)

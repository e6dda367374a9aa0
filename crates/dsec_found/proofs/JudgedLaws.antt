-- Groups judged one after the other are judged as their list is (RFC 4033 5).
use Rattle.std.proofs.Common.{◌≡◌, List, [], ◌∷◌, ◌++◌, refl, sym, ap, ◌∙◌}
use Rattle.dsec_spec.specs.Chain.{Link}
use Rattle.dsec_spec.specs.Groups.{Group}
use Rattle.dsec_nodes.specs.Causes.{Cause}
use Rattle.dsec_nodes.specs.World.{World, Replies}
use Rattle.dsec_nodes.specs.Judging.{Finding, is_shown, has_no_set, is_insecure, is_bogus, is_indeterminate, Judged, AllJudged, all, one_bogus, and_others, judged_of, judged_all}
use Rattle.dsec_found.specs.Outcomes.{and_next}

-- a judged group that isn't bogus before others
abbrev before : Judged → AllJudged → AllJudged
before j (all js) = all (j ∷ js)
before j (one_bogus cause links) = one_bogus cause links

-- where all are judged the first isn't bogus
passes : (j : Judged) (f : Finding) (rest : AllJudged) (js : List Judged) → and_others j f rest ≡ all js → (more : AllJudged) → and_others j f more ≡ before j more
passes j (is_bogus cause links) rest js e more = absurd cc
passes j (is_shown links last signature) rest js e (all ks) = refl
passes j (is_shown links last signature) rest js e (one_bogus cause other) = refl
passes j has_no_set rest js e (all ks) = refl
passes j has_no_set rest js e (one_bogus cause other) = refl
passes j (is_insecure cause signed) rest js e (all ks) = refl
passes j (is_insecure cause signed) rest js e (one_bogus other links) = refl
passes j is_indeterminate rest js e (all ks) = refl
passes j is_indeterminate rest js e (one_bogus cause other) = refl

-- and all after it are judged
rests : (j : Judged) (rest : AllJudged) (js : List Judged) → before j rest ≡ all js → (later : List Judged) × (rest ≡ all later) × (j ∷ later ≡ js)
rests j (all later) js e = (later, refl, cc)
rests j (one_bogus cause links) js e = absurd cc

-- the last group alone
alone : (j : Judged) (f : Finding) → and_others j f (all []) ≡ and_next [] j f
alone j (is_shown links last signature) = refl
alone j has_no_set = refl
alone j (is_insecure cause signed) = refl
alone j (is_bogus cause links) = refl
alone j is_indeterminate = refl

-- a group before others and one after them
around : (first : Judged) (js : List Judged) (j : Judged) (f : Finding) → before first (and_next js j f) ≡ and_next (first ∷ js) j f
around first js j (is_shown links last signature) = refl
around first js j has_no_set = refl
around first js j (is_insecure cause signed) = refl
around first js j (is_bogus cause links) = refl
around first js j is_indeterminate = refl

-- where all groups are judged, one more after them comes to what the next one makes of it (RFC 4033 5)
pub judged_next : (w : World) (replies : Replies) (groups : List Group) (g : Group) (js : List Judged) → judged_all w replies groups ≡ all js
    → judged_all w replies (groups ++ g ∷ []) ≡ and_next js (judged_of w replies g) (judged_of w replies g).finding
unfolding judged_all
judged_next w replies [] g js e =
    let none : [] ≡ js = cc in
    alone (judged_of w replies g) (judged_of w replies g).finding ∙ ap (λ (ks : List Judged). and_next ks (judged_of w replies g) (judged_of w replies g).finding) none
judged_next w replies (first ∷ groups) g js e =
    let j = judged_of w replies first in
    let same = passes j j.finding (judged_all w replies groups) js e in
    let r = rests j (judged_all w replies groups) js (sym (same (judged_all w replies groups)) ∙ e) in
    same (judged_all w replies (groups ++ g ∷ []))
    ∙ (ap (before j) (judged_next w replies groups g r.0 r.1)
    ∙ (around j r.0 (judged_of w replies g) (judged_of w replies g).finding
    ∙ ap (λ (ks : List Judged). and_next ks (judged_of w replies g) (judged_of w replies g).finding) r.2))

-- a bogus group ends judging, whatever the first is
ends : (j : Judged) (f : Finding) (rest more : AllJudged) (cause : Cause) (links : List Link) → and_others j f rest ≡ one_bogus cause links
    → (rest ≡ one_bogus cause links → more ≡ one_bogus cause links) → and_others j f more ≡ one_bogus cause links
ends j (is_bogus own other) rest more cause links e h = e
ends j (is_shown ls last signature) (all js) more cause links e h = absurd cc
ends j (is_shown ls last signature) (one_bogus own other) more cause links e h = ap (and_others j (is_shown ls last signature)) (h e)
ends j has_no_set (all js) more cause links e h = absurd cc
ends j has_no_set (one_bogus own other) more cause links e h = ap (and_others j has_no_set) (h e)
ends j (is_insecure told signed) (all js) more cause links e h = absurd cc
ends j (is_insecure told signed) (one_bogus own other) more cause links e h = ap (and_others j (is_insecure told signed)) (h e)
ends j is_indeterminate (all js) more cause links e h = absurd cc
ends j is_indeterminate (one_bogus own other) more cause links e h = ap (and_others j is_indeterminate) (h e)

-- where a group is bogus, those after it don't matter (RFC 4035 5)
pub judged_ended : (w : World) (replies : Replies) (groups more : List Group) (cause : Cause) (links : List Link) → judged_all w replies groups ≡ one_bogus cause links
    → judged_all w replies (groups ++ more) ≡ one_bogus cause links
unfolding judged_all
judged_ended w replies [] more cause links e = absurd cc
judged_ended w replies (first ∷ groups) more cause links e =
    ends (judged_of w replies first) (judged_of w replies first).finding (judged_all w replies groups) (judged_all w replies (groups ++ more)) cause links e
    (judged_ended w replies groups more cause links)

-- The groups of both sections, judged one after the other, are those of each section, judged by itself.
use Rattle.std.proofs.Common.{◌≡◌, ℕ, ◌+◌, true, List, [], ◌∷◌, ◌++◌, length, take, drop, Option, Some, None, refl, sym, ap, ◌∙◌, append-nil, length-append, arith}
use Rattle.std.proofs.Math.Seq.{take-append_seam, drop-append_seam}
use Rattle.dsec_spec.specs.Groups.{Group}
use Rattle.dsec_nodes.specs.World.{World, Replies}
use Rattle.dsec_nodes.specs.Judging.{Finding, is_shown, has_no_set, is_insecure, is_bogus, is_indeterminate, Judged, AllJudged, all, one_bogus, judged_of, judged_all}
use Rattle.dsec_course.specs.Agreeing.{behind}
use Rattle.dsec_course.proofs.GroupLaws.{passes, judged_first, judged_bogus}
use Rattle.dsec_cut.specs.Ended.{Both, both_of}

-- what judging groups one after the other came to, where none is bogus: so many of them are the answer section's
abbrev pub split_by : ℕ → AllJudged → Option Both
split_by n (all js) = Some (take n js, drop n js)
split_by n (one_bogus cause links) = None

split_at : (js : List Judged) (x : AllJudged) → split_by (length js) (behind js x) ≡ both_of (all js) x
split_at js (all later) =
    ap (λ (xs : List Judged). Some (xs, drop (length js) (js ++ later))) (take-append_seam js later)
    ∙ ap (λ (xs : List Judged). Some (js, xs)) (drop-append_seam js later)
split_at js (one_bogus cause links) = refl

-- the groups of both sections, behind others that are the answer section's
pub judged_apart : (w : World) (replies : Replies) (answers authorities : List Group) (js : List Judged)
    → split_by (length js + length answers) (behind js (judged_all w replies (answers ++ authorities)))
    ≡ both_of (behind js (judged_all w replies answers)) (judged_all w replies authorities)
unfolding judged_all
judged_apart w replies [] authorities js =
    let few : length js + 0 ≡ length js = omega arith in
    ap (λ (n : ℕ). split_by n (behind js (judged_all w replies authorities))) few
    ∙ (split_at js (judged_all w replies authorities)
    ∙ ap (λ (xs : List Judged). both_of (all xs) (judged_all w replies authorities)) (sym (append-nil js)))
judged_apart w replies (g ∷ gs) authorities js = by j.finding refl (judged_apart w replies gs authorities (js ++ j ∷ []))
  where
    j : Judged
    j = judged_of w replies g

    Apart : Type 0
    Apart = split_by (length (js ++ j ∷ []) + length gs) (behind (js ++ j ∷ []) (judged_all w replies (gs ++ authorities)))
        ≡ both_of (behind (js ++ j ∷ []) (judged_all w replies gs)) (judged_all w replies authorities)

    long : length js + length (g ∷ gs) ≡ length (js ++ j ∷ []) + length gs
    long = let l = length-append js (j ∷ []) in omega (arith, l)

    further : (f : Finding) → j.finding ≡ f → passes f ≡ true → Apart
        → split_by (length js + length (g ∷ gs)) (behind js (judged_all w replies (g ∷ gs ++ authorities)))
        ≡ both_of (behind js (judged_all w replies (g ∷ gs))) (judged_all w replies authorities)
    further f e p later =
        ap (λ (n : ℕ). split_by n (behind js (judged_all w replies (g ∷ gs ++ authorities)))) long
        ∙ (ap (split_by (length (js ++ j ∷ []) + length gs)) (judged_first w replies js g (gs ++ authorities) j refl (ap passes e ∙ p))
        ∙ (later ∙ sym (ap (λ (x : AllJudged). both_of x (judged_all w replies authorities)) (judged_first w replies js g gs j refl (ap passes e ∙ p)))))

    by : (f : Finding) → j.finding ≡ f → Apart
        → split_by (length js + length (g ∷ gs)) (behind js (judged_all w replies (g ∷ gs ++ authorities)))
        ≡ both_of (behind js (judged_all w replies (g ∷ gs))) (judged_all w replies authorities)
    by (is_bogus cause links) e later =
        ap (λ (x : AllJudged). split_by (length js + length (g ∷ gs)) (behind js x))
        (judged_bogus w replies g (gs ++ authorities) j (is_bogus cause links) (one_bogus cause links) refl e refl)
        ∙ sym (ap (λ (x : AllJudged). both_of (behind js x) (judged_all w replies authorities))
        (judged_bogus w replies g gs j (is_bogus cause links) (one_bogus cause links) refl e refl))
    by (is_shown links last signature) e later = further (is_shown links last signature) e refl later
    by has_no_set e later = further has_no_set e refl later
    by (is_insecure cause signed) e later = further (is_insecure cause signed) e refl later
    by is_indeterminate e later = further is_indeterminate e refl later

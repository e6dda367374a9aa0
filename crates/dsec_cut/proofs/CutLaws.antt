-- The judged groups by which a message is rewritten are its own, each of them sound, and those of the recursion.
use Rattle.std.proofs.Common.{◌≡◌, ℕ, ◌==◌, ◌<◌, Bool, true, false, List, [], length, map, Some, None, Ok, refl, ap, ◌∙◌, subst, arith}
use Rattle.std.proofs.lemmas.Bool.{ltb-true, ltb-false}
use Rattle.std.specs.Prelude.{◌&&◌, Contains, nat_lt, if◌then◌else◌}
use Rattle.std.proofs.Math.Bool.{not}
use Rattle.dsec_spec.specs.Lasting.{greatest_ttl_in, ttl_for_sig}
use Rattle.dsec_spec.specs.Chain.{Link}
use Rattle.dsec_spec.specs.Records.{Record}
use Rattle.dsec_nodes.specs.World.{World, Replies, moment}
use Rattle.dsec_nodes.specs.Nodes.{Node, Kept}
use Rattle.dsec_nodes.specs.Machine.{Input}
use Rattle.dsec_nodes.specs.Likeness.{Likeness}
use Rattle.dsec_nodes.specs.InStep.{AskedOf}
use Rattle.dsec_nodes.specs.Judging.{Finding, is_shown, has_no_set, is_insecure, is_bogus, is_indeterminate, Judged}
use Rattle.dsec_nodes.specs.SoundFindings.{Justifies, IsFound}
use Rattle.dsec_course.specs.Course.{Waiting, to_begin, to_end, for_walk, for_nothing, Course, asked_in}
use Rattle.dsec_course.specs.Advancing.{begun}
use Rattle.dsec_course.specs.Hearing.{first_run, AreHeard, after_heard, IsOfTable, HoldsRun}
use Rattle.dsec_rewrite.specs.Rewriting.{left_by, rewriting}
use Rattle.dsec_cut.specs.Ended.{Both, is_over, is_whole, only_where, both_in, AreJudged}
use Rattle.dsec_cut.specs.Cuts.{bound_by, bounded_at, are_due, left_as, to_rewrite, to_rewrite_alone}
use Rattle.dsec_cut.proofs.RunLaws.{run_judged, run_judged_alone}
use Rattle.dsec_cut.proofs.WhereLaws.{any_bogus, SaysNoOfNone, where_so, no_groups, whole_of}

-- no rewriting is due where there is no group
pub none_due : (t : ℕ) → SaysNoOfNone (are_due t)
none_due t = refl

-- a message without judged groups isn't rewritten
pub none_without_groups : (t : ℕ) (c : Course) → c.judged ≡ [] → to_rewrite t c ≡ None
none_without_groups t c e = no_groups (are_due t) (none_due t) (is_whole c) c.answers c.judged e

-- nor one that waits for something
pub none_while_waiting : (t : ℕ) (c : Course) → (c.waits ≡ for_nothing → ⊥) → to_rewrite t c ≡ None
none_while_waiting t c waits = by c.waits refl
  where
    rest : Bool
    rest = (length c.left == 0) && not (any_bogus c.judged)

    by : (x : Waiting) → c.waits ≡ x → where_so ((is_over x && rest) && are_due t (both_in c)) (both_in c) ≡ None
    by to_begin e = refl
    by (to_end o) e = refl
    by (for_walk group s) e = refl
    by for_nothing e = absurd (waits e)

-- Whatever a message has heard, the groups by which it is rewritten are all its groups, each of them sound, none bogus (RFC 4033 5)
pub rewriting_judged : (w : World) (most : ℕ) (message : List ℕ) (held : Node → Type 0) (c : Course) (inputs : List Input) (both : Both)
    → ((n : Node) → held n → Kept w.accepts n) → begun w.anchors most message ≡ Ok c → AreHeard w held (first_run w c) inputs
    → to_rewrite (moment w) (after_heard w (first_run w c) inputs).course ≡ Some both → AreJudged w most message both
rewriting_judged w most message held c inputs both kept e heard is =
    let d = (after_heard w (first_run w c) inputs).course in
    let so = whole_of (are_due (moment w)) (none_due (moment w)) d both is in
    subst (AreJudged w most message) so.1 (run_judged w most message held c inputs kept e heard so.0)

-- and where all that it has heard is of a table, they are those of the recursion
pub rewriting_alone : (w : World) (most : ℕ) (message : List ℕ) (held : Node → Type 0) (c : Course) (inputs : List Input)
    → ((n : Node) → held n → Kept w.accepts n) → begun w.anchors most message ≡ Ok c → AreHeard w held (first_run w c) inputs
    → HoldsRun w most message held (after_heard w (first_run w c) inputs) → (after_heard w (first_run w c) inputs).course.waits ≡ for_nothing
    → (like : Likeness) (replies : Replies) → ((n : Node) → held n → IsOfTable like w replies n)
    → AskedOf replies (asked_in (after_heard w (first_run w c) inputs).course)
    → to_rewrite (moment w) (after_heard w (first_run w c) inputs).course ≡ to_rewrite_alone w most replies message
rewriting_alone w most message held c inputs kept e heard h over like replies of asked =
    run_judged_alone w most message held c inputs kept e heard h over (are_due (moment w)) (none_due (moment w)) like replies of asked

-- what is cut to less than it is
less_than : (s most bound : ℕ) → (if nat_lt s most then Some s else None) ≡ Some bound → (bound ≡ s) × (s < most)
less_than s most bound e = by (nat_lt s most) refl e
  where
    by : (x : Bool) → nat_lt s most ≡ x → (if x then Some s else None) ≡ Some bound → (bound ≡ s) × (s < most)
    by true f g = (cc, ltb-true s most f)
    by false f g = absurd cc

-- Where a group is cut, links show its set by a signature beside it, and it is cut to what that may be kept for, which is less than the greatest
-- of its TTLs (RFC 4035 5.3.3)
pub record IsCutBy (w : World) (j : Judged) (bound : ℕ) : Type 0 where
  pub links : List Link
  pub last : Link
  pub signature : Record
  pub shows : j.finding ≡ is_shown links last signature
  pub beside : Contains j.group.signatures signature
  pub is : bound ≡ ttl_for_sig signature (moment w)
  pub less : ttl_for_sig signature (moment w) < greatest_ttl_in j.group

pub cut_by : (w : World) (j : Judged) (bound : ℕ) → IsFound w j → (bounded_at (moment w) j).bound ≡ Some bound → IsCutBy w j bound
cut_by w j bound found e = by j.finding refl found e
  where
    by : (f : Finding) → j.finding ≡ f → Justifies w j f → bound_by (moment w) j.group f ≡ Some bound → IsCutBy w j bound
    by (is_shown links last signature) f g x =
        let less = less_than (ttl_for_sig signature (moment w)) (greatest_ttl_in j.group) bound x in
        record { links = links; last = last; signature = signature; shows = f; beside = g.beside; is = less.0; less = less.1 }
    by has_no_set f g x = absurd cc
    by (is_insecure cause signed) f g x = absurd cc
    by (is_bogus cause links) f g x = absurd cc
    by is_indeterminate f g x = absurd cc

-- and where links show a group's set by a signature that may be kept for less than one of its TTLs says, it is cut to that (RFC 4035 5.3.3)
pub cut_where_less : (t : ℕ) (j : Judged) (links : List Link) (last : Link) (signature : Record) → j.finding ≡ is_shown links last signature
    → ttl_for_sig signature t < greatest_ttl_in j.group → (bounded_at t j).bound ≡ Some (ttl_for_sig signature t)
cut_where_less t j links last signature shows less =
    ap (bound_by t j.group) shows ∙ by (nat_lt (ttl_for_sig signature t) (greatest_ttl_in j.group)) refl
  where
    by : (x : Bool) → nat_lt (ttl_for_sig signature t) (greatest_ttl_in j.group) ≡ x → (if x then Some (ttl_for_sig signature t) else None) ≡ Some (ttl_for_sig signature t)
    by true f = refl
    by false f = absurd (omega (arith, less, ltb-false (ttl_for_sig signature t) (greatest_ttl_in j.group) f))

-- A message is left rewritten by its judged groups, each cut so, where a rewriting is due, and otherwise as it came (RFC 2181 5, RFC 4035 5.3.3)
pub left_is : (t : ℕ) (message : List ℕ) (both : Both)
    → left_as t message (only_where (are_due t) (Some both)) ≡ left_by message (map (bounded_at t) both.0) (map (bounded_at t) both.1)
left_is t message both = by (are_due t both)
  where
    by : (x : Bool) → left_as t message (if x then Some both else None)
        ≡ (if x then rewriting message (map (bounded_at t) both.0) (map (bounded_at t) both.1) else Ok message)
    by true = refl
    by false = refl

-- Messages whose groups are all judged, none of them bogus (RFC 4033 5, RFC 4035 4.3, 5).
use Rattle.std.specs.Prelude.{ℕ, ◌==◌, ◌&&◌, List, ◌++◌, length, map, take, drop, Bool, true, false, Option, Some, None, if◌then◌else◌}
use Rattle.std.proofs.Math.Bool.{not}
use Rattle.std.specs.List.{AllByRecursion, list_any}
use Rattle.dsec_spec.specs.Reading.{◌>>=◌}
use Rattle.dsec_spec.specs.Messages.{Question}
use Rattle.dsec_spec.specs.Groups.{groups_of}
use Rattle.dsec_spec.specs.Redirection.{moved}
use Rattle.dsec_nodes.specs.World.{World, Replies}
use Rattle.dsec_nodes.specs.Judging.{Finding, is_shown, has_no_set, is_insecure, is_bogus, is_indeterminate, Judged, AllJudged, all, judged_all}
use Rattle.dsec_nodes.specs.Alone.{sections_of}
use Rattle.dsec_nodes.specs.SoundFindings.{IsFound, IsSure}
use Rattle.dsec_course.specs.Course.{Waiting, to_begin, to_end, for_walk, for_nothing, Course}
use Rattle.dsec_course.specs.Justified.{AreRead}

-- judged groups of the answer section, and of the authority section (RFC 1035 4.1)
abbrev pub Both : Type 0
Both = List Judged × List Judged

-- whether what was found is bogus (RFC 4033 5)
abbrev pub is_found_bogus : Finding → Bool
is_found_bogus (is_shown links last signature) = false
is_found_bogus has_no_set = false
is_found_bogus (is_insecure cause signed) = false
is_found_bogus (is_bogus cause links) = true
is_found_bogus is_indeterminate = false

-- whether nothing is waited for
abbrev pub is_over : Waiting → Bool
is_over to_begin = false
is_over (to_end o) = false
is_over (for_walk group s) = false
is_over for_nothing = true

-- whether judging a message has come to its end with every group, none of them bogus (RFC 4035 5)
abbrev pub is_whole : Course → Bool
is_whole c = is_over c.waits && ((length c.left == 0) && not (list_any (λ j. is_found_bogus j.finding) c.judged))

-- the judged groups of both sections, as far as judging has come
abbrev pub both_in : Course → Both
both_in c = (take c.answers c.judged, drop c.answers c.judged)

-- the judged groups of both sections where judging has come to its end with every group, none of them bogus, and a test says yes of them
abbrev pub whole_where : (Both → Bool) → Course → Option Both
whole_where test c = if is_whole c && test (both_in c) then Some (both_in c) else None

-- judged groups of both sections, if a test says yes of them
abbrev pub only_where : (Both → Bool) → Option Both → Option Both
only_where test None = None
only_where test (Some both) = if test both then Some both else None

-- These are the judged groups of a message: those of its answer section, CNAME records that follow from a DNAME record moved to it, and of its
-- authority section. What was found of each is so, and none is bogus (RFC 1035 4.1, RFC 4033 5, RFC 6672 3.1)
pub record AreJudged (w : World) (most : ℕ) (message : List ℕ) (both : Both) : Type 0 where
  pub questions : List Question
  pub read : AreRead w.anchors most message questions (map (λ j. j.group) both.0) (map (λ j. j.group) both.1)
  pub found : AllByRecursion (IsFound w) (both.0 ++ both.1)
  pub sure : AllByRecursion (λ j. IsSure j.finding) (both.0 ++ both.1)

-- what judging the groups of both sections came to, where none is bogus
abbrev pub both_of : AllJudged → AllJudged → Option Both
both_of (all answers) (all authorities) = Some (answers, authorities)
both_of _ _ = None

-- the judged groups of a message by a table of replies, where so many bare CNAME records are followed: all of them, where none is bogus
-- (RFC 4035 5, RFC 6672 3.1)
abbrev pub judged_alone : World → ℕ → Replies → List ℕ → Option Both
judged_alone w most replies message = do
  sections ← sections_of message
  answers ← moved w.anchors most (groups_of sections.1)
  both_of (judged_all w replies answers) (judged_all w replies (groups_of sections.2))

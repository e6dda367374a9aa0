-- What judged groups are cut to, and by which of them a message is rewritten (RFC 2181 5, 5.2, RFC 4035 5.3.3).
use Rattle.std.specs.Prelude.{ℕ, List, map, Bool, Option, Some, None, Result, Ok}
use Rattle.dsec_spec.specs.Groups.{Group}
use Rattle.dsec_spec.specs.Lasting.{adjusted_ttl, ttl_for_sig}
use Rattle.dsec_nodes.specs.World.{World, Replies, moment}
use Rattle.dsec_nodes.specs.Judging.{Finding, is_shown, has_no_set, is_insecure, is_bogus, is_indeterminate, Judged}
use Rattle.dsec_course.specs.Course.{Course}
use Rattle.dsec_rewrite.specs.Cutting.{Bounded, is_due}
use Rattle.dsec_rewrite.specs.Rewriting.{rewriting}
use Rattle.dsec_rewrite.specs.declared.error.RewriteError.{RewriteError}
use Rattle.dsec_cut.specs.Ended.{Both, whole_where, only_where, judged_alone}

-- the TTL that a group's records are cut to at the moment t, by what was found of it: where links show its set, what its signature may be kept
-- for, if that is less than the greatest of them says (RFC 4035 5.3.3)
abbrev pub bound_by : ℕ → Group → Finding → Option ℕ
bound_by t group (is_shown links last signature) = adjusted_ttl group (ttl_for_sig signature t)
bound_by t group has_no_set = None
bound_by t group (is_insecure cause signed) = None
bound_by t group (is_bogus cause links) = None
bound_by t group is_indeterminate = None

-- a judged group, with the TTL that its records are cut to at the moment t (RFC 4035 5.3.3)
abbrev pub bounded_at : ℕ → Judged → Bounded
bounded_at t j = record { group = j.group; bound = bound_by t j.group j.finding }

-- whether a rewriting is due by these judged groups at the moment t: TTLs are cut, or there were duplicates (RFC 2181 5, RFC 4035 5.3.3)
abbrev pub are_due : ℕ → Both → Bool
are_due t both = is_due (map (bounded_at t) both.0) (map (bounded_at t) both.1)

-- the judged groups by which a message is rewritten at the moment t: all its groups, where none is bogus and a rewriting is due (RFC 4035 5.3.3)
abbrev pub to_rewrite : ℕ → Course → Option Both
to_rewrite t c = whole_where (are_due t) c

-- the same, by a table of replies
abbrev pub to_rewrite_alone : World → ℕ → Replies → List ℕ → Option Both
to_rewrite_alone w most replies message = only_where (are_due (moment w)) (judged_alone w most replies message)

-- what a message is left as: rewritten by these judged groups, if there are any, and otherwise as it came (RFC 2181 5, RFC 4035 5.3.3)
abbrev pub left_as : ℕ → List ℕ → Option Both → Result (List ℕ) RewriteError
left_as t message None = Ok message
left_as t message (Some both) = rewriting message (map (bounded_at t) both.0) (map (bounded_at t) both.1)

-- Why a message comes to its outcome, as the code keeps it (RFC 4033 5).
use Rattle.dsec_nodes.specs.Judging.{Finding, is_shown, has_no_set, is_insecure, is_bogus, is_indeterminate}
use Rattle.dsec_nodes.specs.Outcomes as outcomes
use Rattle.dsec_nodes.specs.Outcomes.{by_groups, by_cause, by_links, by_nothing}
use Rattle.dsec_found.specs.Outcomes.{by_held}
use Rattle.dsec_outcome.specs.declared.outcome.Why.{Why}
use Rattle.dsec_outcome.specs.declared.outcome.Why.TheVariants.{ByGroups, ByCause, ByLinks, ByNothing}

-- why a status was found
abbrev pub why_view : {V : Type 0} → Why V → outcomes.Why
why_view (ByGroups judged used) = by_groups judged.items used.items
why_view (ByCause held) = by_held held
why_view (ByLinks links) = by_links links
why_view ByNothing = by_nothing

-- why a group that links don't show has its status; of a shown one nothing is said here (RFC 4033 5)
abbrev pub unshown_why : Finding → outcomes.Why
unshown_why (is_insecure cause signed) = by_cause signed
unshown_why (is_bogus cause links) = by_links links
unshown_why has_no_set = by_nothing
unshown_why is_indeterminate = by_nothing
unshown_why (is_shown links last signature) = by_nothing

-- How many sets are checked for what answers a walk's step, and for a question's reply (RFC 4035 5.2).
use Rattle.std.specs.Prelude.{ℕ, ◌+◌, ◌==◌, List, Option, Some, None, if◌then◌else◌}
use Rattle.std.specs.List.{sum_by}
use Rattle.dsec_spec.specs.Numbers.{DS}
use Rattle.dsec_nodes.specs.Replies.{read_reply}
use Rattle.dsec_nodes.specs.Walk.{Reached}
use Rattle.dsec_nodes.specs.Machine.{Question as Asked, Phase, asks_keys, Input, begin, node, stored, reply}
use Rattle.dsec_child.specs.Belows.{most_checked}

-- for the first reply at a name: the island's DNSKEY set, or what a reply to the question for a DS set can have
abbrev pub checked_first : Option Reached → Option (List ℕ) → ℕ
checked_first None octets = 1
checked_first (Some r) octets = most_checked (read_reply octets)

-- for a reply: a DNSKEY set that a DS set is to admit, or what the first reply at a name can have
abbrev pub checked_reply : Phase → Option Reached → Option (List ℕ) → ℕ
checked_reply (asks_keys pending) o octets = 1
checked_reply _ o octets = checked_first o octets

-- for what answers a step: none but for a reply
abbrev pub most_checked_by : Input → Phase → Option Reached → ℕ
most_checked_by begin phase o = 0
most_checked_by (node found) phase o = 0
most_checked_by stored phase o = 0
most_checked_by (reply octets) phase o = checked_reply phase o octets

-- how many sets of the reply to a question are checked at most: to the one for a DS set a DS set, a CNAME set and each set of its authority section;
-- to the one for a DNSKEY set that set (RFC 4035 5.2)
abbrev pub sets_in : Asked → ℕ
sets_in q = if q.rtype == DS then most_checked (read_reply q.reply) else 1

-- how many sets are checked at most by whoever asked these questions and judges so many groups (RFC 4035 5.2, 5.3)
abbrev pub sets_at_most : List Asked → ℕ → ℕ
sets_at_most asked groups = sum_by sets_in asked + groups

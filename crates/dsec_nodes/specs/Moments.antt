-- Two moments of judging at both of which, or at neither, each signature on the way to a name is in its period (RFC 4034 3.1.5, RFC 4035 5.3.1).
use Rattle.std.specs.Prelude.{◌≡◌, ℕ, suc, ◌≤◌, length, take, find, Some, IfSome}
use Rattle.std.specs.List.{AllByRecursion}
use Rattle.dsec_spec.specs.Names.{Place}
use Rattle.dsec_spec.specs.Numbers.{DS, DNSKEY}
use Rattle.dsec_spec.specs.Records.{Record, rrsig_of}
use Rattle.dsec_spec.specs.Period.{in_period}
use Rattle.dsec_spec.specs.Groups.{Group}
use Rattle.dsec_nodes.specs.World.{World, Replies, moment, on_circle}
use Rattle.dsec_nodes.specs.Nodes.{Node}
use Rattle.dsec_nodes.specs.Taking.{Taken}
use Rattle.dsec_nodes.specs.Signing.{is_set_at}
use Rattle.dsec_nodes.specs.Replies.{Reply, failed, unreadable, sections, read_reply}

-- the same anchors, bounds and signatures at another moment, in seconds since 1970
abbrev pub at_moment : World → ℕ → World
at_moment w now = record { accepts = w.accepts; anchors = w.anchors; bounds = w.bounds; now = now }

-- a node that was kept may count under an island: there is a moment, that of judging or a later one, at which it counts (RFC 4035 4.5)
abbrev pub MayCount : World → Place → Node → Type 0
MayCount w top n = (t : ℕ) × (w.now ≤ t) × Taken (at_moment w t) top n.name n

-- a signature record is in its period at both moments, or at neither (RFC 4034 3.1.5)
abbrev pub IsSteady : ℕ → ℕ → Record → Type 0
IsSteady t u r = IfSome (rrsig_of r.rdata) (λ sig. in_period sig.inception sig.expiration t ≡ in_period sig.inception sig.expiration u)

-- and so each signature of a group
abbrev pub AreSteady : ℕ → ℕ → Group → Type 0
AreSteady t u group = AllByRecursion (IsSteady t u) group.signatures

-- of each group of a reply's answer and authority section
abbrev pub IsSteadyReply : ℕ → ℕ → Reply → Type 0
IsSteadyReply t u failed = Unit {0}
IsSteadyReply t u unreadable = Unit {0}
IsSteadyReply t u (sections answers authorities) = AllByRecursion (AreSteady t u) answers × AllByRecursion (AreSteady t u) authorities

-- of a table's reply to the question for a type at a name
abbrev pub IsSteadyAt : World → ℕ → Replies → Place → ℕ → Type 0
IsSteadyAt w now replies name rtype = IsSteadyReply (moment w) (on_circle now) (read_reply (replies name rtype))

-- a reply's answer section has a DS set at a name
abbrev pub HasDsSet : Place → Reply → Type 0
HasDsSet name (sections answers authorities) = (group : Group) × (find (is_set_at name DS) answers ≡ Some group)
HasDsSet name failed = ⊥
HasDsSet name unreadable = ⊥

-- of a table's replies to the questions for a name below a zone: for its DS set, and where there is one for its DNSKEY set (RFC 4035 5.2)
pub record IsSteadyBelow (w : World) (now : ℕ) (replies : Replies) (name : Place) : Type 0 where
  pub at_ds : IsSteadyAt w now replies name DS
  pub at_keys : HasDsSet name (read_reply (replies name DS)) → IsSteadyAt w now replies name DNSKEY

-- and of those on the way from an island to a name: for the island's DNSKEY set, and for each name below it down to that one (RFC 4035 5.2)
pub record IsSteadyWay (w : World) (now : ℕ) (replies : Replies) (top name : Place) : Type 0 where
  pub at_top : IsSteadyAt w now replies top DNSKEY
  pub below : (labels : ℕ) → suc (length top) ≤ labels → labels ≤ length name → IsSteadyBelow w now replies (take labels name)

-- What a reply comes to, as the code has it between hearing it and going on.
use Rattle.std.specs.Prelude.{◌≡◌, ℕ, List, Option}
use Rattle.dsec_spec.specs.Numbers.{DS, DNSKEY}
use Rattle.dsec_nodes.specs.ByDs.{Pending}
use Rattle.dsec_nodes.specs.Machine.{Question, Walking, Step, ask, heard, making, name_at, with_pending}
use Rattle.dsec_walk.specs.declared.reached.Next.{Next}
use Rattle.dsec_walk.specs.declared.reached.Next.TheVariants.{Made, Asks}

-- the walk with these questions asked
abbrev pub with_asked : Walking → List Question → Walking
with_asked s asked = record {
  top = s.top;
  target = s.target;
  behind = s.behind;
  reached = s.reached;
  phase = s.phase;
  asked = asked;
  got = s.got;
}

-- the DNSKEY set is asked for, after this reply to the question for the DS set (RFC 4035 5.2)
abbrev pub pended : Walking → Option (List ℕ) → Pending → Walking × Step
pended s octets pending = (with_pending s (heard s DS octets) pending, ask (name_at s) DNSKEY)

-- the step after a reply that comes to this
abbrev pub result_by : {V : Type 0} → Walking → Option (List ℕ) → Next V → Walking × Step
result_by s octets (Made rtype node) = making s (heard s rtype octets) node
result_by s octets (Asks pending) = pended s octets pending

-- a walk that found no memory: it is the same way, and no other question was asked on it
abbrev pub IsSameWay : Walking → Walking → Type 0
IsSameWay before after = (after.asked ≡ before.asked) × (after.top ≡ before.top) × (after.target ≡ before.target)

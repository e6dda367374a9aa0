-- Where each signature on the way to a held node is in its period at both of two moments, or at neither, it stays of the table.
use Rattle.std.proofs.Common.{ℕ, ◌+◌, ◌≤◌, Option, Some, None, sym, ◌∙◌, arith}
use Rattle.dsec_spec.specs.Names.{Place}
use Rattle.dsec_nodes.specs.World.{World, Replies}
use Rattle.dsec_nodes.specs.Nodes.{Node}
use Rattle.dsec_nodes.specs.Likeness.{but_for_times}
use Rattle.dsec_nodes.specs.Moments.{at_moment, MayCount, IsSteadyWay}
use Rattle.dsec_nodes.proofs.TakingLaws.{may_count_still}
use Rattle.dsec_nodes.proofs.MomentLaws.{node_still}
use Rattle.dsec_course.specs.Hearing.{IsOfTable}
use Rattle.dsec_node.specs.Caches.{Held}
use Rattle.dsec_lookup.specs.Outside.{HoldsTable, HoldsSteady}

-- a node that may count at a later moment hasn't run out
pub lasts_till : (w : World) (later : ℕ) (top : Place) (n : Node) → w.now ≤ later → MayCount (at_moment w later) top n → w.now ≤ n.made + n.valid_for
lasts_till w later top n le may = omega (arith, le, may.1, may.2.to)

module _ (w : World) (other : ℕ) (replies : Replies) where
  -- a node that is of the table at one moment is of it at another
  pub still_of_table : (n : Node)
      → ((top : Place) → MayCount (at_moment w other) top n → (w.now ≤ n.made + n.valid_for) × IsSteadyWay w other replies top n.name)
      → IsOfTable but_for_times w replies n → IsOfTable but_for_times (at_moment w other) replies n
  still_of_table n steady h top may =
      let s = steady top may in
      sym (node_still w other replies top n.name s.1) ∙ h top (may_count_still w other top n s.0 may)

  -- Where all that is held is of a table at one moment, it is so at another, as long as each held node that may count then hasn't run out before, and on
  -- the way to it each signature is in its period at both, or at neither (RFC 4034 3.1.5, RFC 4035 4.5)
  pub still_held : (held : Option Held) → HoldsSteady w other replies held → HoldsTable w replies held → HoldsTable (at_moment w other) replies held
  still_held None steady h = absurd h
  still_held (Some held) steady h = λ p n e. still_of_table n (steady p n e) (h p n e)

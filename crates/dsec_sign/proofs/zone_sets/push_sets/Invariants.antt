use Rattle.std.proofs.Common.{◌≡◌, ◌+◌, ◌++◌, List, length}
use Rattle.dsec_spec.specs.Names.{place}
use Rattle.dsec_spec.specs.Records.{Record}
use Rattle.dsec_spec.specs.SetsToSign.{is_signed}
use Rattle.dsec_chain.specs.Views.{IsPlaced}
use Rattle.dsec_sign.specs.Pushing.{Pushed}
use Rattle.dsec_sign.proofs.zone_sets.push_sets.Given as goal

abbrev pub invariant-loop-first : goal.invariant-loop-first
invariant-loop-first l = record {
  done : List Record;
  split : l.owner.records.now ≡ done ++ l.rest;
  start : l.start ≡ l.owner.start + length done;
  pushed : (records : List Record) → IsPlaced records l.owner → Pushed records (is_signed (place l.apex) l.owner.is_cut) done l.rest l.fn.sets.items l.sets.items;
}

abbrev pub decreases-loop-first : goal.decreases-loop-first
decreases-loop-first l = length l.rest

use Rattle.std.proofs.Common.{List, ℕ, codes}
use Rattle.dsec_core.specs.Validating.{Validating}
use Rattle.dsec_uses_steps.specs.Going.{Around, AreTaken}
use Rattle.dsec_uses_steps.proofs.take_all.Given as goal

abbrev pub invariant-loop-line : goal.invariant-loop-line
invariant-loop-line g l =
    (lines : List (List ℕ)) (after : List Validating) (is : Around)
    → AreTaken (codes "example. 3600 IN DNSKEY 257 3 13 AQI=") 500 lines l.under_way.items after
    (record { held = g.C.Caches.held l.caches; lasting = g.C.Caches.lasting l.caches; written = g.K.Sink.written l.sink; faults = g.K.Sink.faults l.sink; checked = l.steps }) is
    → (all : List (List ℕ)) × AreTaken (codes "example. 3600 IN DNSKEY 257 3 13 AQI=") 500 all l.fn.under_way.items after
    (record { held = g.C.Caches.held l.fn.caches; lasting = g.C.Caches.lasting l.fn.caches; written = g.K.Sink.written l.fn.sink; faults = g.K.Sink.faults l.fn.sink; checked = l.fn.steps }) is

use Rattle.std.proofs.Common.{◌≡◌, is_ok, length, rules}
use Rattle.std.proofs.lemmas.Option.{slice_get_read}
use Rattle.dsec_uses_steps.specs.Going.{Around}
use Rattle.dsec_uses_steps.proofs.GoingLaws.{taken_at}
use Rattle.dsec_uses_steps.proofs.take_at.Goals as goal

pub returns-then-index-len : goal.returns-then-index-len
returns-then-index-len g c =
    let was : Around = record { held = g.C.Caches.held c.args.caches.now; lasting = g.C.Caches.lasting c.args.caches.now; written = g.K.Sink.written c.args.sink.now; faults = g.K.Sink.faults c.args.sink.now; checked = c.args.steps.now } in
    let is : Around = record { held = g.C.Caches.held c.go_on.new.caches; lasting = g.C.Caches.lasting c.go_on.new.caches; written = g.K.Sink.written c.go_on.new.sink; faults = g.K.Sink.faults c.go_on.new.sink; checked = c.go_on.new.steps } in
    let len : c.len.result ≡ length c.args.under_way.now.items = search rules in
    let there = slice_get_read c.args.under_way.now.items c.len.result c.args.index c.index_mut.result.now len c.if-index-len.true c.index_mut.ensures.value in
    record { takes = taken_at c.args.index (is_ok c.go_on.result) c.args.under_way.now.items c.index_mut.result.now c.go_on.new.validation was is c.args.input there c.go_on.ensures.takes }

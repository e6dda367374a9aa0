use Rattle.std.proofs.Common.{◌∙◌, ◌<◌, ◌≤◌}
use Rattle.dsec_wire.specs.DataViews.{soa_view}
use Rattle.dsec_chain.proofs.SoaLaws.{ttl_is, lesser_first, lesser_second}
use Rattle.dsec_chain.proofs.soa.chain_ttl.Goals as goal

pub returns-then-as_secs : goal.returns-then-as_secs
returns-then-as_secs c =
    let ttl = c.args.soa.now.ttl in
    let least : ttl < c.in-Some.start.minimum = rw (c.as_secs.ensures, c.ttl.ensures, c.as_secs-in-Some.ensures) at c.if-as_secs.true in
    ttl_is c.args.soa.now (soa_view c.in-Some.start) c.ttl-then-as_secs.result c.requires (rw (c.rdata-rdata.ensures.value) at c.in-Some.ensures.value)
    (c.ttl-then-as_secs.ensures ∙ lesser_first ttl c.in-Some.start.minimum least)

pub returns-else-as_secs : goal.returns-else-as_secs
returns-else-as_secs c =
    let ttl = c.args.soa.now.ttl in
    let least : c.in-Some.start.minimum ≤ ttl = rw (c.as_secs.ensures, c.ttl.ensures, c.as_secs-in-Some.ensures) at c.if-as_secs.false in
    ttl_is c.args.soa.now (soa_view c.in-Some.start) c.in-Some.start.minimum c.requires (rw (c.rdata-rdata.ensures.value) at c.in-Some.ensures.value)
    (lesser_second ttl c.in-Some.start.minimum least)

use Rattle.std.proofs.Common.{◌∙◌, sym, ap, map, List, arith}
use Rattle.dsec_spec.specs.Names.{place}
use Rattle.dsec_spec.specs.ZonesOfRecords.{soas_at}
use Rattle.dsec_sorted.specs.IterViews.{left_of}
use Rattle.dsec_chain.proofs.SoaLaws.{is_soa, one_of}
use Rattle.dsec_hashed.specs.Config.{hashing_of}
use Rattle.dsec_hashed.specs.Hashed.{has_twins}
use Rattle.dsec_hashed.specs.HashedViews.{hashed_view}
use Rattle.dsec_hashed.specs.declared.names.HashedName.{HashedName}
use Rattle.dsec_hashed.proofs.Assembled.{twins_collide, no_collision}
use Rattle.dsec_hashed.proofs.Made.{chained}
use Rattle.dsec_hashed.proofs.chain.generate_nsec3s.Goals as goal

pub returns-then-have_collision-clause-refusal : goal.returns-then-have_collision-clause-refusal
returns-then-have_collision-clause-refusal c =
    let apex = place c.args.apex.now in
    let records = left_of c.args.records in
    let names = map hashed_view c.in_ok-names.names.items in
    let twins = ap (λ (xs : List HashedName). has_twins (map hashed_view xs)) (sym c.deref.ensures.value) ∙ (sym c.have_collision.ensures ∙ c.if-have_collision.true) in (
      one_of (soas_at apex records) c.in-Some.soa.now (sym (ap (soas_at apex) c.as_slice.ensures) ∙ c.in-Some.ensures.one),
      twins_collide (hashing_of c.args.config.now) apex records names c.in_ok-names.ensures twins,
    )

pub returns-then-wire_len-gt-MAX_NAME-clause-refusal : goal.returns-then-wire_len-gt-MAX_NAME-clause-refusal
returns-then-wire_len-gt-MAX_NAME-clause-refusal c =
    let apex = place c.args.apex.now in
    let records = left_of c.args.records in
    let names = map hashed_view c.in_ok-names.names.items in
    let none = ap (λ (xs : List HashedName). has_twins (map hashed_view xs)) (sym c.deref.ensures.value) ∙ (sym c.have_collision.ensures ∙ c.if-have_collision.false) in (
      one_of (soas_at apex records) c.in-Some.soa.now (sym (ap (soas_at apex) c.as_slice.ensures) ∙ c.in-Some.ensures.one),
      no_collision (hashing_of c.args.config.now) apex records names c.in_ok-names.ensures none,
      (let long = c.if-wire_len-gt-MAX_NAME.true in let size = c.wire_len.ensures.value in omega (arith, long, size)),
    )

pub chain_ttl-requires : goal.chain_ttl-requires
chain_ttl-requires c =
    let apex = place c.args.apex.now in
    is_soa apex (left_of c.args.records) c.in-Some.soa.now (sym (ap (soas_at apex) c.as_slice.ensures) ∙ c.in-Some.ensures.one)

pub returns-clause-chain : goal.returns-clause-chain
returns-clause-chain c =
    let apex = place c.args.apex.now in
    let records = left_of c.args.records in
    let names = map hashed_view c.in_ok-names.names.items in
    let soa = c.in-Some.soa.now in
    let how = hashing_of c.args.config.now in
    let none = ap (λ (xs : List HashedName). has_twins (map hashed_view xs)) (sym c.deref.ensures.value) ∙ (sym c.have_collision.ensures ∙ c.if-have_collision.false) in
    chained how c.args.apex.now records c.in_ok-made.made.nsec3s.items c.in_ok-made.made.nsec3param names soa c.chain_ttl.result
    (sym (ap (soas_at apex) c.as_slice.ensures) ∙ c.in-Some.ensures.one) c.chain_ttl.ensures c.in_ok-names.ensures none
    (rw (← c.class.ensures, ← c.deref-2.ensures.value) c.in_ok-made.ensures.nsec3s)
    (rw (← c.class.ensures) c.in_ok-made.ensures.param)

pub returns-clause-fits : goal.returns-clause-fits
returns-clause-fits c =
    let apex = place c.args.apex.now in
    let records = left_of c.args.records in
    let names = map hashed_view c.in_ok-names.names.items in
    let none = ap (λ (xs : List HashedName). has_twins (map hashed_view xs)) (sym c.deref.ensures.value) ∙ (sym c.have_collision.ensures ∙ c.if-have_collision.false) in
    record {
      no_collision = no_collision (hashing_of c.args.config.now) apex records names c.in_ok-names.ensures none;
      short = let long = c.if-wire_len-gt-MAX_NAME.false in let size = c.wire_len.ensures.value in omega (arith, long, size);
    }

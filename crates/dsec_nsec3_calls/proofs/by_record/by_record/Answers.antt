use Rattle.std.proofs.Common.{List, ℕ, sym, ap, ◌∙◌}
use Rattle.dsec_nsec3.specs.Tests.{is_between}
use Rattle.dsec_nsec3_calls.specs.Looks.{top_of}
use Rattle.dsec_nsec3_calls.specs.Views.{nsec3_at}
use Rattle.dsec_nsec3_calls.proofs.LookLaws.{by_match, by_cover, by_neither}
use Rattle.dsec_nsec3_calls.proofs.by_record.by_record.Goals as goal

pub returns-then-is_owner-clause-look : goal.returns-then-is_owner-clause-look
returns-then-is_owner-clause-look g c = λ zone n later e z.
    let r = nsec3_at zone c.args.owner.now c.args.nsec3.now in
    c.matched.ensures c.args.left zone c.args.owner.now
    ∙ by_match (top_of c.args.asked.now.is_top zone) n c.args.index r c.args.left (later c.args.left) c.hash_for-hash.result (c.hash_for-hash.ensures n e) (sym c.is_owner.ensures ∙ c.if-is_owner.true)

pub returns-then-is_between-clause-look : goal.returns-then-is_between-clause-look
returns-then-is_between-clause-look g c = λ zone n later e z.
    let r = nsec3_at zone c.args.owner.now c.args.nsec3.now in
    let test = sym (c.is_between.ensures.test ∙ ap (λ (owner : List ℕ). is_between owner c.args.nsec3.now.next_owner.now c.hash_for-hash.result) c.as_slice.ensures.value) ∙ c.if-is_between.true in
    c.covered-look.ensures.look zone z
    ∙ by_cover (top_of c.args.asked.now.is_top zone) n c.args.index r c.args.left (later c.args.left) c.hash_for-hash.result (c.hash_for-hash.ensures n e) (sym c.is_owner.ensures ∙ c.if-is_owner.false) test

pub returns-clause-look : goal.returns-clause-look
returns-clause-look g c = λ zone n later e z.
    let r = nsec3_at zone c.args.owner.now c.args.nsec3.now in
    let test = sym (c.is_between.ensures.test ∙ ap (λ (owner : List ℕ). is_between owner c.args.nsec3.now.next_owner.now c.hash_for-hash.result) c.as_slice.ensures.value) ∙ c.if-is_between.false in
    by_neither (top_of c.args.asked.now.is_top zone) n c.args.index r c.args.left (later c.args.left) c.hash_for-hash.result (c.hash_for-hash.ensures n e) (sym c.is_owner.ensures ∙ c.if-is_owner.false) test

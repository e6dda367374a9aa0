use Rattle.std.proofs.Common.{sym, ap, ◌∙◌, ◌+◌, ℕ, arith}
use Rattle.dsec_text.proofs.LineLemmas.{passes, line_ended, line_goes_on}
use Rattle.dsec_text.proofs.ReadLemmas.{behind_line, has_read_as, passed_at, read_more}
use Rattle.dsec_text.proofs.TokenLemmas.{some_left}
use Rattle.dsec_text.proofs.pass.pass_line.Goals as goal

pub returns-then-ends_line-clause-passed : goal.returns-then-ends_line-clause-passed
returns-then-ends_line-clause-passed c =
    let text = c.args.text.now in
    let rest = c.loop-rest.rest.now in
    let after = c.split_at.result.1.now in
    let token = c.token-kind.result in
    let some = some_left _ c.loop-rest-test.true c.is_empty.ensures in
    let p = passes text rest after c.loop-rest.octets c.loop-rest.depth token c.loop-rest.invariant.0 some c.token-kind.ensures.token c.split_at.ensures.back in
    let read = read_more text rest c.split_at.result.0.now after _ _ c.loop-rest.depth c.in-Some.next token c.loop-rest.invariant.1 some c.token-kind.ensures.token c.split_at.ensures.front c.split_at.ensures.back
    (sym c.in-Some.is ∙ c.depth_after.ensures) in
    passed_at text after _ (line_ended text rest after c.loop-rest.octets c.loop-rest.depth token p (sym c.ends_line.ensures ∙ c.if-ends_line.true)) (behind_line text rest after c.loop-rest.octets c.loop-rest.depth token p)
    (has_read_as text after _ _ _ _ read c.in_ok-push_word.ensures (ap (λ (n : ℕ). c.loop-rest.line_ends + n) c.line_ends_of-line_ends.ensures.count))

pub loop-rest-preserved : goal.loop-rest-preserved
loop-rest-preserved c =
    let text = c.args.text.now in
    let rest = c.loop-rest.rest.now in
    let after = c.split_at.result.1.now in
    let token = c.token-kind.result in
    let some = some_left _ c.loop-rest-test.true c.is_empty.ensures in
    let stands = sym c.in-Some.is ∙ c.depth_after.ensures in
    let p = passes text rest after c.loop-rest.octets c.loop-rest.depth token c.loop-rest.invariant.0 some c.token-kind.ensures.token c.split_at.ensures.back in
    let read = read_more text rest c.split_at.result.0.now after _ _ c.loop-rest.depth c.in-Some.next token c.loop-rest.invariant.1 some c.token-kind.ensures.token c.split_at.ensures.front c.split_at.ensures.back stands in (
      line_goes_on text rest after c.loop-rest.octets c.loop-rest.depth c.in-Some.next token c.loop-rest.invariant.0 p (sym c.ends_line.ensures ∙ c.if-ends_line.false) stands,
      has_read_as text after _ _ _ _ read c.in_ok-push_word.ensures (ap (λ (n : ℕ). c.loop-rest.line_ends + n) c.line_ends_of-line_ends.ensures.count),
      let few = c.line_ends_of-line_ends.ensures.few in
          let one = c.token-kind.ensures.some in
          let before = c.loop-rest.invariant.2 in
          omega (arith, few, one, before),
    )

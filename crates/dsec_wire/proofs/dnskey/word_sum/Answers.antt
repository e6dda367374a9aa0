use Rattle.std.proofs.Common.{arith}
use Rattle.dsec_wire.proofs.KeyTags.{word_sum_bound, two_words, one_word}
use Rattle.dsec_wire.proofs.dnskey.word_sum.Goals as goal

pub overflow_add-sum : goal.overflow_add-sum
overflow_add-sum c =
    let bound = word_sum_bound c.args.octets.now (λ i. omega (arith, c.type_inv.octets i)) in
    let words = two_words c.loop-rest.rest.now c.in-len2-up.len_at_least in
    let h = c.from_be_bytes.ensures in omega arith

pub overflow_add-sum-in-len1 : goal.overflow_add-sum-in-len1
overflow_add-sum-in-len1 c =
    let bound = word_sum_bound c.args.octets.now (λ i. omega (arith, c.type_inv.octets i)) in
    let words = one_word c.loop-rest.rest.now (omega arith) in
    let h = c.from.ensures in omega arith

pub returns-then-rest-lt1-clause-bound : goal.returns-then-rest-lt1-clause-bound
returns-then-rest-lt1-clause-bound c =
    let bound = word_sum_bound c.args.octets.now (λ i. omega (arith, c.type_inv.octets i)) in
    omega arith

pub returns-in-len1-clause-bound : goal.returns-in-len1-clause-bound
returns-in-len1-clause-bound c =
    let bound = word_sum_bound c.args.octets.now (λ i. omega (arith, c.type_inv.octets i)) in
    let words = one_word c.loop-rest.rest.now (omega arith) in
    omega arith

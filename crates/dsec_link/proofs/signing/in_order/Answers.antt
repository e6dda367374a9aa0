use Rattle.std.proofs.Common.{rules, subst, List}
use Rattle.std.specs.Prelude.{IsPermutation}
use Rattle.std.proofs.lemmas.Cmp.{nat_list_cmp_total}
use Rattle.std.proofs.lemmas.List.Sorted.{ranks_by, answers_always}
use Rattle.dsec_link.specs.declared.signing.Keyed.{Keyed}
use Rattle.dsec_link.proofs.KeyedLemmas.{before, in_order_is}
use Rattle.dsec_link.proofs.signing.in_order.Goals as goal

pub returns : goal.returns
returns c =
    in_order_is c.args.records.now c.sort_by.new.self.items
    (subst (λ (all : List Keyed). IsPermutation all c.sort_by.new.self.items) c.in_ok-all.ensures c.in_ok-sort_by.ensures.permutation)
    (c.in_ok-sort_by.ensures.sorted before (ranks_by nat_list_cmp_total (λ (one : Keyed). one.canonical)) (answers_always _ _ _ (λ f a r g called. search rules)))

use Rattle.std.proofs.Common.{rules}
use Rattle.std.specs.Borrow.{Bor}
use Rattle.std.proofs.lemmas.Cmp.{nat_list_cmp_total}
use Rattle.std.proofs.lemmas.List.Sorted.{ranks_by, answers_always}
use Rattle.dsec_spec.specs.Records.{Record}
use Rattle.dsec_link.specs.Sets.{canonical_record}
use Rattle.dsec_sorted.specs.SetViews.{members_of}
use Rattle.dsec_rrsig.proofs.SetMessages.{lent_before, lent_in_order}
use Rattle.dsec_rrsig.proofs.unsorted_set.in_order.Goals as goal

pub returns : goal.returns
returns c =
    lent_in_order (members_of c.args.set.now) c.in_ok-records.records.items c.sort_unstable_by.new.self.items c.in_ok-records.ensures c.sort_unstable_by.ensures.permutation
    (c.sort_unstable_by.ensures.sorted lent_before (ranks_by nat_list_cmp_total (λ (r : Bor Record). canonical_record r.now)) (answers_always _ _ _ (λ f a r g called. search rules)))

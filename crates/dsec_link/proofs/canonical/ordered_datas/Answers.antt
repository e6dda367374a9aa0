use Rattle.std.proofs.Common.{◌≡◌, ◌∙◌, ap, rules, List, ℕ}
use Rattle.std.specs.Borrow.{Bor}
use Rattle.std.proofs.lemmas.Cmp.{nat_list_cmp_total}
use Rattle.std.proofs.lemmas.List.Sorted.{ranks_by, answers_always}
use Rattle.dsec_spec.specs.SignedBytes.{ascending}
use Rattle.dsec_wire.specs.TypedData.{TypedData}
use Rattle.dsec_link.specs.Sets.{canonical_of}
use Rattle.dsec_link.proofs.SortedBy.{before_by, keys_ascending}
use Rattle.dsec_link.proofs.canonical.ordered_datas.Goals as goal

abbrev key : Bor TypedData → List ℕ
key one = canonical_of one.now

pub returns : goal.returns
returns c =
    keys_ascending key c.in_ok-all.all.items c.sort_unstable_by.new.self.items c.sort_unstable_by.ensures.permutation
    (c.sort_unstable_by.ensures.sorted (before_by key) (ranks_by nat_list_cmp_total key) (answers_always _ _ _ (λ f a r g called. search rules)))
    ∙ ap ascending c.in_ok-all.ensures

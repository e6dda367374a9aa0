use Rattle.std.proofs.Common.{rules, Bool, arith}
use Rattle.std.specs.Cmp.{on_total}
use Rattle.std.specs.Cmp.Lexicographic.{slice_cmp}
use Rattle.std.specs.Ordering.{nat_cmp, is_lt}
use Rattle.std.proofs.lemmas.Cmp.{nat_list_cmp_total}
use Rattle.std.proofs.lemmas.List.Sorted.{ranks_by, answers_always, sorted_far}
use Rattle.dsec_hashed.specs.declared.names.HashedName.{HashedName}
use Rattle.dsec_hashed.proofs.names.sort_by_hash.Goals as goal

pub returns-clause-sorted : goal.returns-clause-sorted
returns-clause-sorted c =
    let lt : HashedName → HashedName → Bool = λ a b. is_lt (slice_cmp nat_cmp a.hash b.hash) in
    let weak = ranks_by (on_total (λ (h : HashedName). h.hash) nat_list_cmp_total) (λ (h : HashedName). h) in
    let sorted = c.sort_unstable_by.ensures.sorted lt weak (answers_always _ _ _ (λ f a r g called. search rules)) in
    λ i j d below lj. sorted_far lt weak c.sort_unstable_by.new.self.items sorted i j d (omega arith) lj

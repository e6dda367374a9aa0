use Rattle.std.proofs.Common.{List, take, drop, sym, subst}
use Rattle.std.specs.Prelude.{IsPermutation}
use Rattle.std.proofs.lemmas.List.{take-append-drop}
use Rattle.dsec_spec.specs.Records.{Record}
use Rattle.dsec_sign.specs.Adding.{AreApart}
use Rattle.dsec_sign.proofs.UnionLaws.{plain_front, signature_behind, sorted_union}
use Rattle.dsec_sign.proofs.added.settle.Goals as goal

pub returns-then-are_apart-clause-ok : goal.returns-then-are_apart-clause-ok
returns-then-are_apart-clause-ok c =
    let records = c.args.records.now.items in
    let front = take c.args.unsigned records in
    let behind = drop c.args.unsigned records in
    let apart : AreApart front behind = subst (λ (xs : List Record). AreApart (take c.args.unsigned xs) (drop c.args.unsigned xs)) c.deref.ensures.value (c.are_apart.ensures c.if-are_apart.true) in
    sorted_union front behind c.sort.new.records.items c.requires.canonical apart.canonical (plain_front front apart.plain) (signature_behind behind c.requires.signatures)
    (subst (λ (xs : List Record). IsPermutation xs c.sort.new.records.items) (sym (take-append-drop c.args.unsigned records)) c.sort.ensures.permuted) c.sort.ensures.sorted

use Rattle.std.proofs.Common.{ap, ◌∙◌}
use Rattle.dsec_group.specs.declared.sections.GroupedSections.{GroupedSections}
use Rattle.dsec_core.specs.Progress.{first_wait}
use Rattle.dsec_core.proofs.ReadSteps.{opens_so, parts}
use Rattle.dsec_core.proofs.course.reading.by_groups.Goals as goal

pub returns : goal.returns
returns g c = λ seed sections same.
    let before = c.args.groups.answer.groups in
    opens_so c.args.anchors.now c.args.most c.args.message.items (parts sections) before c.args.groups.authority.groups c.into_vec.result.items
    c.in_ok-opening.opening.answers c.in_ok-opening.opening.left.items (first_wait c.in_ok-opening.opening.ends) c.beginning.result
    (c.in_ok-opening.ensures c.args.anchors.now c.args.most before c.in_ok-ends.ensures)
    (ap (λ (x : GroupedSections). x.answer.groups) same) (ap (λ (x : GroupedSections). x.authority.groups) same) (c.into_vec.ensures ∙ ap (λ (x : GroupedSections). x.question) same) c.beginning.ensures

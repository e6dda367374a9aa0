use Rattle.std.proofs.Common.{subst, ◌∙◌}
use Rattle.dsec_core.specs.Validating.{world_by}
use Rattle.dsec_course.specs.Course.{CourseStep}
use Rattle.dsec_context.specs.Turns.{IsAt}
use Rattle.dsec_context.proofs.WithinLaws.{end_within}
use Rattle.dsec_context.proofs.judging.finish.Goals as goal

pub verdict-requires : goal.verdict-requires
verdict-requires g c = let begun = c.requires.at in (c.in-Ok.ensures.ends begun.0 begun.1 begun.2 begun.3).0

pub returns-in-Ok-clause-checks : goal.returns-in-Ok-clause-checks
returns-in-Ok-clause-checks g c = λ most message before from at few.
    end_within (world_by g.V.Verifier.accepts c.args.validation.now) most message (g.U.Upstream.table c.args.upstream.now) before
    (record { held = g.C.Caches.held c.serve.new.caches; lasting = g.C.Caches.lasting c.serve.new.caches; asked = g.U.Upstream.asked c.serve.new.upstream; faults = g.U.Upstream.faults c.serve.new.upstream; heard = g.U.Upstream.heard c.serve.new.upstream })
    c.serve.new.validation.course c.verdict.result.outcome c.verdict.result.questions from c.serve.new.steps
    (subst (λ (y : CourseStep). IsAt (world_by g.V.Verifier.accepts c.args.validation.now) most message (g.U.Upstream.table c.args.upstream.now) before
    (record { held = g.C.Caches.held c.serve.new.caches; lasting = g.C.Caches.lasting c.serve.new.caches; asked = g.U.Upstream.asked c.serve.new.upstream; faults = g.U.Upstream.faults c.serve.new.upstream; heard = g.U.Upstream.heard c.serve.new.upstream })
    c.serve.new.validation.course y) c.verdict.ensures.outcome (c.in-Ok.ensures.ends most message before at).1)
    (c.verdict.ensures.questions ∙ c.in-Ok.ensures.counted) (c.in-Ok.ensures.checks most message before from at few)

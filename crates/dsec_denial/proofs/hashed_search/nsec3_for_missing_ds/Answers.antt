use Rattle.std.proofs.Common.{arith, ap, ◌∙◌, subst, Option, drop, ◌+◌}
use Rattle.dsec_cause.specs.declared.cause.Cause.{Cause}
use Rattle.dsec_nodes.specs.Signing.{keys_of}
use Rattle.dsec_spec.specs.Names.{place}
use Rattle.dsec_spec.specs.Numbers.{NSEC3}
use Rattle.dsec_nodes.specs.MissingByHash.{by_hashed_group}
use Rattle.dsec_nodes.specs.MissingDs.{looked_among, passed, then_looked}
use Rattle.dsec_denial.specs.Findings.{Finds}
use Rattle.dsec_denial.specs.declared.finding.DsFinding.{DsFinding}
use Rattle.dsec_denial.proofs.SearchSteps.{at_the_end, ends_with, from_index, one_further, past}
use Rattle.dsec_denial.proofs.hashed_search.nsec3_for_missing_ds.Goals as goal

pub returns-in_default : goal.returns-in_default
returns-in_default g c =
    let groups = c.args.groups.now in
    let name = place c.args.name.now in
    let here = from_index groups c.loop-index.index c.loop-index-test.true in
    record {
      there = c.in_ok-found.ensures.there;
      found = λ w zone datas goes follows.
          ends_with w zone datas name (by_hashed_group w zone datas name) groups c.loop-index.index here.0 here.2 c.loop-index.last (c.loop-index.invariant.0 w zone datas goes follows) (keys_of c.args.keys.now) c.in_ok-found.found c.in_default.not-Passed
          (c.in_ok-found.ensures.found w zone datas here.0 goes follows here.1);
      later = omega (arith, c.loop-index.invariant.1, c.in_ok-found.ensures.later);
      bound = omega (arith, one_further NSEC3 here.0 groups c.loop-index.index here.2 _ _ c.loop-index.steps _ (c.in_ok-found.ensures.bound here.0 here.1) c.loop-index.invariant.2);
    }

pub loop-index-preserved : goal.loop-index-preserved
loop-index-preserved g c =
    let groups = c.args.groups.now in
    let name = place c.args.name.now in
    let here = from_index groups c.loop-index.index c.loop-index-test.true in (
      λ w zone datas goes follows.
          let shows = subst (λ (found : DsFinding). Finds w zone datas name groups (keys_of c.args.keys.now) found (by_hashed_group w zone datas name here.0)) c.in-Passed.is (c.in_ok-found.ensures.found w zone datas here.0 goes follows here.1) in
          ap (λ (last : Option Cause). then_looked (passed last) (looked_among (by_hashed_group w zone datas name) (drop (c.loop-index.index + 1) groups))) c.or-last.ensures
          ∙ past w zone datas name (by_hashed_group w zone datas name) groups c.loop-index.index here.0 here.2 c.loop-index.last (c.loop-index.invariant.0 w zone datas goes follows) c.in-Passed.cause shows,
      omega (arith, c.loop-index.invariant.1, c.in_ok-found.ensures.later),
      one_further NSEC3 here.0 groups c.loop-index.index here.2 _ _ c.loop-index.steps _ (c.in_ok-found.ensures.bound here.0 here.1) c.loop-index.invariant.2,
    )

pub returns-clause-found : goal.returns-clause-found
returns-clause-found g c = λ w zone datas goes follows.
    at_the_end (by_hashed_group w zone datas (place c.args.name.now)) c.args.groups.now c.loop-index.index c.loop-index.last (omega (arith, c.loop-index-test.false)) (c.loop-index.invariant.0 w zone datas goes follows)

pub returns-in_err-found-clause-bound : goal.returns-in_err-found-clause-bound
returns-in_err-found-clause-bound g c =
    let groups = c.args.groups.now in
    let here = from_index groups c.loop-index.index c.loop-index-test.true in
    omega (arith, one_further NSEC3 here.0 groups c.loop-index.index here.2 _ _ c.loop-index.steps _ (c.in_err-found.ensures.bound here.0 here.1) c.loop-index.invariant.2)

use Rattle.std.proofs.Common.{◌+◌, arith}
use Rattle.dsec_nodes.specs.Signing.{keys_of}
use Rattle.dsec_spec.specs.Names.{place}
use Rattle.dsec_nodes.specs.MissingDs.{nsec_search, nsec3_search}
use Rattle.dsec_denial.proofs.SearchSteps.{found_first, room_for_both}
use Rattle.dsec_denial.proofs.both.denials_for_missing_ds.Goals as goal

pub returns-in_err-first-clause-bound : goal.returns-in_err-first-clause-bound
returns-in_err-first-clause-bound g c =
    omega (arith, c.in_err-first.ensures.bound, room_for_both c.args.groups.now (c.args.limits.now.max_bad_signatures + 1))

pub returns-in_default : goal.returns-in_default
returns-in_default g c =
    let groups = c.args.groups.now in
    let name = place c.args.name.now in
    record {
      there = c.in_ok-first.ensures.there;
      found = λ w zone datas goes follows.
          found_first w zone datas name groups (keys_of c.args.keys.now) (nsec_search w zone datas name groups) (nsec3_search w zone datas name groups) c.in_ok-first.first c.in_default.not-Passed (c.in_ok-first.ensures.found w zone datas goes);
      later = c.in_ok-first.ensures.later;
      bound = omega (arith, c.in_ok-first.ensures.bound, room_for_both groups (c.args.limits.now.max_bad_signatures + 1));
    }

pub returns-in_err-later-clause-bound : goal.returns-in_err-later-clause-bound
returns-in_err-later-clause-bound g c =
    omega (arith, c.in_ok-first.ensures.bound, c.in_err-later.ensures.bound, room_for_both c.args.groups.now (c.args.limits.now.max_bad_signatures + 1))

pub returns-clause-bound : goal.returns-clause-bound
returns-clause-bound g c =
    omega (arith, c.in_ok-first.ensures.bound, c.in_ok-later.ensures.bound, room_for_both c.args.groups.now (c.args.limits.now.max_bad_signatures + 1))

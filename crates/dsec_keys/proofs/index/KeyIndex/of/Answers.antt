use Rattle.std.proofs.Common.{◌<◌, ◌^◌, length, ap, ◌∙◌, arith}
use Rattle.dsec_keys.proofs.Entries.{entries_length, sorted_entries}
use Rattle.dsec_keys.proofs.index.KeyIndex.of.Goals as goal

pub returns : goal.returns
returns c codes are =
    let size = ap length are ∙ entries_length codes 0 in
    let few : length codes < 2 ^ 64 = omega (arith, size, c.args.entries.small, c.args.entries.ok) in
    sorted_entries codes c.args.entries.items c.sort_unstable.new.self.items are few c.sort_unstable.ensures.permutation c.sort_unstable.ensures.sorted

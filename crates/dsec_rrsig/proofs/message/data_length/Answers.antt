use Rattle.std.proofs.Common.{arith}
use Rattle.dsec_spec.proofs.CanonicalDataLemmas.{length-canonical_data}
use Rattle.dsec_rrsig.proofs.message.data_length.Goals as goal

pub returns : goal.returns
returns c =
    let short = c.rdata.ensures.readable.at_most in
    rw (c.len.ensures, c.octets.ensures.value, c.rdata.ensures.value) (omega (arith, short, length-canonical_data c.args.one.now.rtype c.args.one.now.rdata))

use Rattle.dsec_link.proofs.KeyedLemmas.{in_order_length}
use Rattle.dsec_link.proofs.signing.push_signed.Goals as goal

pub put_back-requires : goal.put_back-requires
put_back-requires c = in_order_length c.args.records.now c.in_ok-all.all.items c.in_ok-all.ensures

-- The octets of the table are what its rows' definitions compute.
use Rattle.std.proofs.Common.{rules}
use Rattle.sha2.specs.Sha256.{first_words, schedule, rounds, compress, hash_after, digest_bytes, sha256}
use Rattle.dsec_spec.specs.RecordData.{parts_in}
use Rattle.dsec_spec.specs.SignedBytes.{inserted, ascending}
use Rattle.dsec_crypto.specs.Table.{rows}
use Rattle.dsec_crypto.proofs.table.TableVerifierVerifier.verify.Goals as goal

pub returns-then-has_row-clause-exact : goal.returns-then-has_row-clause-exact
unfolding rows parts_in inserted ascending first_words schedule rounds compress hash_after digest_bytes sha256
returns-then-has_row-clause-exact c = search rules

pub returns-else-has_row-clause-exact : goal.returns-else-has_row-clause-exact
unfolding rows parts_in inserted ascending first_words schedule rounds compress hash_after digest_bytes sha256
returns-else-has_row-clause-exact c = search rules

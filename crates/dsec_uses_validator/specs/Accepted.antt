-- Which signatures the program's verifier accepts.
use Rattle.std.specs.Prelude.{◌==◌, ◌&&◌}
use Rattle.dsec_spec.specs.Accepts.{Accepts}
use Rattle.dsec_crypto.specs.StandIn.{stand_in}

-- those of algorithm 13 (RFC 6605) that the stand-in accepts
abbrev pub by_one_algorithm : Accepts
by_one_algorithm flags protocol algorithm key message signature = (algorithm == 13) && stand_in flags protocol algorithm key message signature

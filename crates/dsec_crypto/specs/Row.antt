-- What a row of the table in the code means.
use Rattle.dsec_crypto.specs.Table.{SignedMessage}
use Rattle.dsec_crypto.specs.declared.table.Row.{Row}

-- the row's octets
abbrev pub row_of : Row → SignedMessage
row_of row = record { key = row.key.now; message = row.message.now; signature = row.signature.now }

use Rattle.std.proofs.Common.{◌≡◌, length, pos, refl, arith}
use Rattle.jute.specs.Format.{number_bytes}
use Rattle.client_records.specs.Responses.{error_response}
use Rattle.client_records.specs.declared.response.ErrorResponse.{ErrorResponse}
use Rattle.read_processor.proofs.watch.look_of_added.Goals as goal

abbrev done : ErrorResponse
done = record { err = pos 0 }

four : length (error_response.written done) ≡ 4
unfolding error_response number_bytes
four = refl

writable : error_response.Writable done
unfolding error_response
writable = tt

pub of-requires-clause-writable : goal.of-requires-clause-writable
of-requires-clause-writable c = writable

pub of-requires-clause-small : goal.of-requires-clause-small
of-requires-clause-small c = omega (arith, four)

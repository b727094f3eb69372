use mathlib.Core.Path.{refl}
use Rattle.wire.specs.Numbers.{number_at}
use Rattle.facts.specs.Numbers.{price_of, moment_of}
use Rattle.codes.specs.Codes.{side_of, kind_of, day_of, agreement_of, flag_of}
use Rattle.forms.specs.Forms.{form_of}
use Rattle.record.specs.Record.{trade_of, market_of, request_of, party_at, settlement_of, facts_of}
use Rattle.cases.proofs.no_facts.Goals as goal

pub returns : goal.returns
unfolding facts_of form_of trade_of market_of request_of party_at settlement_of number_at price_of moment_of side_of kind_of day_of agreement_of flag_of
returns c = refl

use Rattle.writing.proofs.Written.{written}
use Rattle.writing.proofs.put_facts.Goals as goal

pub returns : goal.returns
returns c = written c.args.f c.args.out.now _ _ _ _ _ _ _ _ _ c.requires.1
    c.put_head.ensures
    c.put_trade.ensures
    c.put_market.ensures
    c.put_flags.ensures
    c.put_party.ensures
    c.put_party-2.ensures
    c.put_lists.ensures
    c.put_tail.ensures
    c.put_form.ensures

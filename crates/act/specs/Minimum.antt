-- The least error that counts on each way (RULE R6.2): the opening way goes by the obvious column (RULE R6.4).
use Rattle.act.specs.Words.{Mills, Band, Way, Obvious, Opening, Catastrophic}

abbrev pub minimum_of : Way → Band → Mills
minimum_of Obvious band = band.obvious
minimum_of Opening band = band.obvious
minimum_of Catastrophic band = band.catastrophic

-- The side of a connection that a value of the code stands for. Assumes nothing.
use Rattle.as5506.specs.Tables.{source, destination}
use Rattle.as5506.specs.Tables.{Side as TheSide}
use Rattle.columns.specs.declared.Side.{Side}
use Rattle.columns.specs.declared.Side.TheVariants.{Source, Destination}

abbrev pub side_of : Side → TheSide
side_of Source = source
side_of Destination = destination

-- What the opcodes on objects do, put together.
use Rattle.std.proofs.Common.{ℕ, List}
use Rattle.zcore.specs.State.{State}
use Rattle.meaning.specs.Objects.{Objects, ObjectOf}
use Rattle.code.specs.TableLaws.{Acts, RegionLaws}
use Rattle.code.specs.Region.{HasObjects}
use Rattle.code.specs.Tables.{PropertyTable}
use Rattle.code.proofs.AttributeActs as attributes
use Rattle.code.proofs.Begins.{begins}
use Rattle.code.proofs.Frames.{keeps}
use Rattle.code.proofs.HeldTables.{placed}
use Rattle.code.proofs.LinkActs as links
use Rattle.code.proofs.NameActs.{prints}
use Rattle.code.proofs.PropertyActs as properties
use Rattle.code.proofs.StoreActs.{stores}

acts : (definitions : List ObjectOf) (defaults : List ℕ) (objects : Objects) (tables : List PropertyTable) (s : State)
    → (has : HasObjects definitions defaults objects tables s.memory)
    → Acts definitions defaults objects tables s has
acts definitions defaults objects tables s has = record {
  parent = links.parents definitions defaults objects tables s has;
  child = links.children definitions defaults objects tables s has;
  sibling = links.siblings definitions defaults objects tables s has;
  stands_in = links.stands_in definitions defaults objects tables s has;
  removes = links.removes definitions defaults objects tables s has;
  moves = links.moves definitions defaults objects tables s has;
  attribute = attributes.attribute definitions defaults objects tables s has;
  sets = attributes.sets definitions defaults objects tables s has;
  clears = attributes.clears definitions defaults objects tables s has;
  absent = properties.absent definitions defaults objects tables s has;
  default = properties.default definitions defaults objects tables s has;
  present = properties.present definitions defaults objects tables s has;
  single = properties.single definitions defaults objects tables s has;
  long = properties.long definitions defaults objects tables s has;
  loads = λ here after result o q k words i is lt.
      properties.loads definitions defaults objects tables s has here after result o q k words i is lt;
  stores = λ here after o q k v words i is lt.
      stores definitions defaults objects tables s has here after o q k v words i is lt;
  prints = prints definitions defaults objects tables s has;
}

pub region_laws : RegionLaws
region_laws = record {
  begins = begins;
  keeps = keeps;
  placed = placed;
  acts = acts;
}

-- `automaton::finish`: the root has its row, and then the other states are passed.
use Rattle.automaton.proofs.Linking.{root_overlay, root_begun, root_rowed}
use Rattle.automaton.proofs.finish.Goals as goal

pub overlay-requires : goal.overlay-requires
overlay-requires c = root_overlay c.requires c.classes-width.ensures c.row_count-count.ensures c.base_row.ensures

pub link-requires : goal.link-requires
link-requires c = root_begun c.requires c.classes-width.ensures c.row_count-count.ensures c.base_row.ensures c.overlay.ensures

pub returns : goal.returns
returns c = root_rowed c.requires c.classes-width.ensures c.row_count-count.ensures c.base_row.ensures c.overlay.ensures c.link.ensures

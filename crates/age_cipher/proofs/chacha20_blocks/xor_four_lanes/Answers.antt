use Rattle.age_cipher.proofs.Common.{◌+◌, ◌*◌, arith}
use Rattle.age_cipher.proofs.BlockLemmas.{block_xored, xored_on}
use Rattle.age_cipher.proofs.chacha20_blocks.xor_four_lanes.Goals as goal

pub returns : goal.returns
returns g c =
    let words = c.args.words.now in
    let at = c.args.at in
    let n = 4 * c.args.q in
    let long = c.told-words in
    let a = c.columns.ensures in
    let b = c.columns-2.ensures in
    let d = c.columns-3.ensures in
    let e = c.columns-4.ensures in
    xored_on (omega arith)
    (block_xored words at n long (omega arith) a.first b.first d.first e.first c.xor_block.ensures)
    (xored_on (omega arith)
    (block_xored words at (n + 1) long (omega arith) a.second b.second d.second e.second c.xor_block-2.ensures)
    (xored_on (omega arith)
    (block_xored words at (n + 2) long (omega arith) a.third b.third d.third e.third c.xor_block-3.ensures)
    (block_xored words at (n + 3) long (omega arith) a.fourth b.fourth d.fourth e.fourth c.xor_block-4.ensures)))

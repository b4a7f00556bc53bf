-- A shared reference to the cells gives access to each word. The proof assumes the program logic `Logic`.
use denote.Struct.Lending.{of_Lends}
use Rattle.cyc_rawpages.specs.contracts.cells.Cells as C
use Rattle.cyc_rawpages.proofs.cells.Cells.TheLaw.Statement.{statement}
use Rattle.cyc_rawpages.proofs.Sharing.{lent_at_laws, Lends-at}

pub shares : statement
shares = of_Lends C.struct C.the_codes C.the_heap C.the_lent (λ d p. lent_at_laws d.at d.slots) tt
    (λ M 𝓤 𝓛 d p. Lends-at 𝓛 C.the_row.lives d.at d.slots)

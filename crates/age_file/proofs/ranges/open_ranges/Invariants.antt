use Rattle.age_file.proofs.ranges.open_ranges.Given as goal

abbrev pub ghosts-header_at : goal.ghosts-header_at
ghosts-header_at g a = record {
  bytes = g.D.ReadAt.bytes a.dev.now;
  given = g.D.ReadAt.given a.dev.now;
  name = a.dev.ghost_name;
}

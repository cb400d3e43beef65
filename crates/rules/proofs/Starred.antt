-- The starred cases of document 01, one table under one statement. Assumes nothing.
use mathlib.Core.Path.{◌≡◌, refl}
use mathlib.Core.List.{map}
use Rattle.rules.specs.Sizes.{bad_sizes, off_grid, bad_point, column, tile_no, row_of, column_of, tile_count, tiles, tile_of}
use Rattle.rules.specs.Span.{cover, gap, meets, begins, ends, place, drawn}
use Rattle.rules.specs.Distance.{square, within, point, tile_rect, shares}
use Rattle.rules.specs.Classes.{class_no, is_set, classes, class_of, allowed, allowed_in, marked, marked_in, report_tile}
use Rattle.rules.specs.Register.{count, footprints, recorded, rectangle, bad_span, bad_footprint, bad_footprints, bad_entry, bad_register}
use Rattle.rules.specs.Tables.{run_no, runs, tile_runs, bad_starts, bad_lengths, run_start, run_end, run_at, bad_ends, good_run, good_runs, stands, built_run, built_entries, built_starts, built_tables}
use Rattle.rules.specs.Refusals.{paper, paper_answer}
use Rattle.rules.specs.Build.{register_verdict, build_verdict, builds}
use Rattle.rules.specs.Search.{allowed_run, allowed_runs, visits, visited, read_runs, is_hit, radius_hits, hit_writes, search_verdict, searches}
use Rattle.rules.specs.Join.{beside, neighbours, lists, run_pairs, class_pairs, tile_pairs, join_pairs, pair_writes, join_verdict, joins}
use Rattle.rules.specs.Front.{rows, flat, laid, earlier, insert, encoded, decoded}
use Rattle.rules.specs.Walk.{exists, in_group, group_exists, tile_in_group, group_tiles, group_gap, square_of, waiting_row, group_if, group_brings, tile_brings, start_entries, start_front, row_writes, item_move, move, step, tile_weight, group_weight, weight, finish, start_room, bad_start, start_verdict, begun, ask_verdict, whole_rows, bad_walk, ask_machine, ask_outcome, asks}
use Rattle.rules.specs.Yard.{yard, Y, dig, built, answered, Case, cases}

pub starred : map (λ (c : Case). answered c.asked) cases ≡ map (λ (c : Case). c.answer) cases
unfolding yard Y dig built answered cases bad_sizes off_grid bad_point column tile_no row_of column_of tile_count tiles tile_of cover gap meets begins ends place drawn square within point tile_rect shares class_no is_set classes class_of allowed allowed_in marked marked_in report_tile count footprints recorded rectangle bad_span bad_footprint bad_footprints bad_entry bad_register run_no runs tile_runs bad_starts bad_lengths run_start run_end run_at bad_ends good_run good_runs stands built_run built_entries built_starts built_tables paper paper_answer register_verdict build_verdict builds allowed_run allowed_runs visits visited read_runs is_hit radius_hits hit_writes search_verdict searches beside neighbours lists run_pairs class_pairs tile_pairs join_pairs pair_writes join_verdict joins rows flat laid earlier insert encoded decoded exists in_group group_exists tile_in_group group_tiles group_gap square_of waiting_row group_if group_brings tile_brings start_entries start_front row_writes item_move move step tile_weight group_weight weight finish start_room bad_start start_verdict begun ask_verdict whole_rows bad_walk ask_machine ask_outcome asks
starred = refl

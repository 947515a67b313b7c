mod Bools

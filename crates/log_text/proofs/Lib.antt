mod Spaces
